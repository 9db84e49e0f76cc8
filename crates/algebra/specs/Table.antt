-- Lists as tables: a list by its entries' rule, a list joined from parts, and a result laid over the start of a slice, with their laws.
use Rattle.std.specs.Prelude.{◌≡◌, ◌⊎◌}
use Rattle.std.proofs.Math.Path.{refl, sym, ap, ap₂}
use Rattle.std.proofs.Common.{◌∙◌, inl, not-suc-le-zero, add-zero, zero-add, add-suc, length-drop, take-append-drop, drop_of_length-le, take-suc, drop-cons, drop_at}
use mathlib.Core.List.{List, [], ◌∷◌, ◌++◌, append_assoc, append-nil}
use Rattle.std.proofs.Math.Logic.{⊎_elim}
use Prim.Native.Nat.{ℕ, zero, suc, ◌+◌, ◌-◌, ◌*◌, ◌≤◌, ◌<◌}
use Rattle.std.proofs.Math.Numerals.{add-one}
use native.Mathlib.Omega.{arith}
use Rattle.std.proofs.Math.Decide.{dec_lt}
use Rattle.std.proofs.Math.Nat.{add_assoc}
use Rattle.std.proofs.Math.ListN.{length, get_or, take, drop, set, replicate, length-append, length-take, replicate-append-replicate, get_or-append}
use Rattle.std.proofs.Math.Seq.{length-take-le, get_or-append-add, get_or-take, get_or-drop, set_at, take_at, drop-drop, take-append_seam, take-append-le, take-take, drop-append-add, sets-eq}
use Rattle.std.proofs.lemmas.List.{get_or_at, drop-append-le}
use Rattle.std.proofs.lemmas.List.Edits.{sets}

-- the k places from n on are apart from the j places from m on
abbrev pub Apart : ℕ → ℕ → ℕ → ℕ → Type 0
Apart n k m j = (n + k ≤ m) ⊎ (m + j ≤ n)

module _ {ℓ} {A : Type ℓ} where
  -- f 0, f 1, .. f (n - 1)
  unfoldable pub tabulate : ℕ → (ℕ → A) → List A
  tabulate zero f = []
  tabulate (suc n) f = tabulate n f ++ (f n ∷ [])

  -- f 0 ++ f 1 ++ .. ++ f (n - 1)
  unfoldable pub joined : ℕ → (ℕ → List A) → List A
  joined zero f = []
  joined (suc n) f = joined n f ++ f n

  -- the slice d with the list r over its first places; places past r stay as they were
  unfoldable pub over : List A → List A → List A
  over r d = r ++ drop (length r) d

  -- the slice d with the list r over its places from n on
  unfoldable pub laid : ℕ → List A → List A → List A
  laid n r d = take n d ++ (r ++ drop (n + length r) d)

  -- the k entries of d from n on
  unfoldable pub area : ℕ → ℕ → List A → List A
  area n k d = take k (drop n d)

  -- from a slice before to the slice after, the k places from n on are free: some entries stand there, and all else is as it was
  pub record Free (n k : ℕ) (before after : List A) : Type ℓ where
    pub values : List A
    pub as_many : length values ≡ k
    pub is : after ≡ laid n values before

  pub length_tabulate : (n : ℕ) (f : ℕ → A) → length (tabulate n f) ≡ n
  unfolding tabulate
  length_tabulate zero f = refl
  length_tabulate (suc n) f = length-append (tabulate n f) (f n ∷ []) ∙ ap (λ (k : ℕ). k + 1) (length_tabulate n f) ∙ add-one n

  pub get_d_tabulate : (n : ℕ) (f : ℕ → A) (i : ℕ) (d : A) → i < n → get_or (tabulate n f) i d ≡ f i
  unfolding tabulate
  get_d_tabulate zero f i d h = absurd (not-suc-le-zero h)
  get_d_tabulate (suc n) f i d h = go (dec_lt i n) (get_d_tabulate n f i d)
    where
      go : Dec (i < n) → (i < n → get_or (tabulate n f) i d ≡ f i) → get_or (tabulate n f ++ (f n ∷ [])) i d ≡ f i
      go (yes l) ih = get_or-append (tabulate n f) (f n ∷ []) d i (rw (length_tabulate n f) l) ∙ ih l
      go (no g) ih = let e : i ≡ n = omega arith in rw e (get_or_at (tabulate n f) (f n) [] d n (length_tabulate n f))

  pub tabulate_same : (n : ℕ) (f g : ℕ → A) → ((i : ℕ) → i < n → f i ≡ g i) → tabulate n f ≡ tabulate n g
  unfolding tabulate
  tabulate_same zero f g h = refl
  tabulate_same (suc n) f g h = ap₂ (λ l x. l ++ (x ∷ [])) (tabulate_same n f g (λ i l. h i (omega arith))) (h n (omega arith))

  pub tabulate_add : (n k : ℕ) (f : ℕ → A) → tabulate (n + k) f ≡ tabulate n f ++ tabulate k (λ i. f (n + i))
  unfolding tabulate
  tabulate_add n zero f = rw (add-zero n) (sym (append-nil (tabulate n f)))
  tabulate_add n (suc k) f =
      rw (add-suc n k)
      (ap (λ l. l ++ (f (n + k) ∷ [])) (tabulate_add n k f) ∙ append_assoc (tabulate n f) (tabulate k (λ i. f (n + i))) (f (n + k) ∷ []))

  -- the first entries of a list
  pub tabulate_take : (n : ℕ) (l : List A) (d : A) → n ≤ length l → tabulate n (λ i. get_or l i d) ≡ take n l
  unfolding tabulate
  tabulate_take zero l d h = refl
  tabulate_take (suc n) l d h = ap (λ r. r ++ (get_or l n d ∷ [])) (tabulate_take n l d (omega arith)) ∙ sym (take-suc l n d h)

  -- one entry over and over
  pub tabulate_replicate : (n : ℕ) (a : A) → tabulate n (λ i. a) ≡ replicate n a
  unfolding tabulate
  tabulate_replicate zero a = refl
  tabulate_replicate (suc n) a = ap (λ l. l ++ (a ∷ [])) (tabulate_replicate n a) ∙ replicate-append-replicate n 1 a ∙ ap (λ k. replicate k a) (add-one n)

  -- ---- a result over a slice

  pub length_over : (r d : List A) → length r ≤ length d → length (over r d) ≡ length d
  unfolding over
  length_over r d h = simp (length-append, length-drop) (omega arith)

  pub over_none : (d : List A) → over [] d ≡ d
  unfolding over
  over_none d = refl

  pub get_d_over : (r d : List A) (i : ℕ) (z : A) → i < length r → get_or (over r d) i z ≡ get_or r i z
  unfolding over
  get_d_over r d i z h = get_or-append r (drop (length r) d) z i h

  pub get_d_past : (r d : List A) (i : ℕ) (z : A) → length r ≤ i → get_or (over r d) i z ≡ get_or d i z
  unfolding over
  get_d_past r d i z h =
      let e : i ≡ length r + (i - length r) = omega arith in
      ap (λ k. get_or (r ++ drop (length r) d) k z) e
      ∙ get_or-append-add r (drop (length r) d) (i - length r) z
      ∙ get_or-drop (length r) d (i - length r) z
      ∙ ap (λ k. get_or d k z) (sym e)

  -- the same with the length of the result written out
  pub over_length : (n : ℕ) (r d : List A) → length r ≡ n → over r d ≡ r ++ drop n d
  unfolding over
  over_length n r d e = ap (λ k. r ++ drop k d) e

  -- what a store of the next entry makes of a slice that is filled up to it
  pub fill_more : (i : ℕ) (f : ℕ → A) (d : List A) (z : A) → i < length d → set (over (tabulate i f) d) i (f i) ≡ over (tabulate (i + 1) f) d
  unfolding tabulate
  fill_more i f d z h =
      ap (λ l. set l i (f i)) (over_length i (tabulate i f) d (length_tabulate i f) ∙ ap (λ l. tabulate i f ++ l) (drop-cons d i z h))
      ∙ set_at (tabulate i f) (get_or d i z) (drop (suc i) d) (f i) i (length_tabulate i f)
      ∙ sym (append_assoc (tabulate i f) (f i ∷ []) (drop (suc i) d))
      ∙ sym (over_length (suc i) (tabulate (suc i) f) d (length_tabulate (suc i) f))
      ∙ ap (λ k. over (tabulate k f) d) (sym (add-one i))

  -- the same of a slice and a value that are known to be these
  pub fill_store : (i : ℕ) (f : ℕ → A) (d : List A) (z : A) {l : List A} {v : A} → i < length d → l ≡ over (tabulate i f) d → v ≡ f i
      → set l i v ≡ over (tabulate (i + 1) f) d
  fill_store i f d z h p q = ap₂ (λ l v. set l i v) p q ∙ fill_more i f d z h

  pub length_filled : (i : ℕ) (f : ℕ → A) (d : List A) {l : List A} → i ≤ length d → l ≡ over (tabulate i f) d → length l ≡ length d
  length_filled i f d h p = ap length p ∙ length_over (tabulate i f) d (rw (length_tabulate i f) h)

  -- what the next k entries, written to a part of their own, make of a slice that is filled up to it
  pub fill_part : (n k : ℕ) (f : ℕ → A) (d : List A) → n + k ≤ length d
      → take n (over (tabulate n f) d) ++ (over (tabulate k (λ i. f (n + i))) (take k (drop n (over (tabulate n f) d))) ++ drop (n + k) (over (tabulate n f) d))
      ≡ over (tabulate (n + k) f) d
  fill_part n k f d h =
      rw (over_length n (tabulate n f) d e, take_at (tabulate n f) (drop n d) n e, drop_at (tabulate n f) (drop n d) n e, over_length k g part (length_tabulate k next), drop_of_length-le part short, rest)
      (ap (λ l. tabulate n f ++ (l ++ drop (n + k) d)) (append-nil g)
      ∙ sym (append_assoc (tabulate n f) g (drop (n + k) d))
      ∙ ap (λ l. l ++ drop (n + k) d) (sym (tabulate_add n k f))
      ∙ sym (over_length (n + k) (tabulate (n + k) f) d (length_tabulate (n + k) f)))
    where
      e : length (tabulate n f) ≡ n
      e = length_tabulate n f

      next : ℕ → A
      next i = f (n + i)

      g : List A
      g = tabulate k next

      part : List A
      part = take k (drop n d)

      short : length part ≤ k
      short = rw (length-take k (drop n d)) (omega arith)

      rest : drop (n + k) (tabulate n f ++ drop n d) ≡ drop (n + k) d
      rest = sym (drop-drop k n (tabulate n f ++ drop n d)) ∙ ap (drop k) (drop_at (tabulate n f) (drop n d) n e) ∙ drop-drop k n d

  -- the next entries, laid where a result ends, make it longer
  pub laid_over : (r next d : List A) → laid (length r) next (over r d) ≡ over (r ++ next) d
  unfolding laid over
  laid_over r next d =
      rw (take-append_seam r (drop (length r) d), drop-append-add r (drop (length r) d) (length next), drop-drop (length next) (length r) d, length-append r next)
      (sym (append_assoc r next (drop (length r + length next) d)))

  pub length_laid : (n : ℕ) (r d : List A) → n + length r ≤ length d → length (laid n r d) ≡ length d
  unfolding laid
  length_laid n r d h = simp (length-append, length-take, length-drop) (omega arith)

  -- entries stored one after another from n on are laid there
  pub laid_sets : (n : ℕ) (r d : List A) → n + length r ≤ length d → sets d n r ≡ laid n r d
  unfolding laid
  laid_sets n r d h = sets-eq r d n h ∙ append_assoc (take n d) r (drop (n + length r) d)

  pub laid_none : (n : ℕ) (d : List A) → laid n [] d ≡ d
  unfolding laid
  laid_none n d = rw (add-zero n) (take-append-drop n d)

  -- what is laid at the start is laid over
  pub laid_front : (r d : List A) → laid 0 r d ≡ over r d
  unfolding laid over
  laid_front r d = rw (zero-add (length r)) refl

  -- the next entries, laid where laid ones end, make them longer
  pub laid_more : (n : ℕ) (r next d : List A) → n ≤ length d → laid (n + length r) next (laid n r d) ≡ laid n (r ++ next) d
  unfolding laid
  laid_more n r next d h =
      ap (λ l. take k l ++ (next ++ drop (k + length next) l)) (sym (append_assoc (take n d) r rest))
      ∙ rw (take_at front rest k e, past, length-append r next, ← add_assoc n (length r) (length next), append_assoc r next (drop (k + length next) d))
      (append_assoc (take n d) r (next ++ drop (k + length next) d))
    where
      k : ℕ
      k = n + length r

      front : List A
      front = take n d ++ r

      rest : List A
      rest = drop k d

      e : length front ≡ k
      e = simp (length-append, length-take) (omega arith)

      past : drop (k + length next) (front ++ rest) ≡ drop (k + length next) d
      past = sym (drop-drop (length next) k (front ++ rest)) ∙ ap (drop (length next)) (drop_at front rest k e) ∙ drop-drop (length next) k d

  -- a store where laid entries end is one entry more
  pub set_laid : (n : ℕ) (r d : List A) (v : A) → n + length r < length d → set (laid n r d) (n + length r) v ≡ laid n (r ++ (v ∷ [])) d
  set_laid n r d v h =
      laid_sets (n + length r) (v ∷ []) (laid n r d) (rw (length_laid n r d (omega arith)) (omega arith)) ∙ laid_more n r (v ∷ []) d (omega arith)

  -- ---- areas of a slice

  pub length_area : (n k : ℕ) (d : List A) → n + k ≤ length d → length (area n k d) ≡ k
  unfolding area
  length_area n k d h = simp (length-take, length-drop) (omega arith)

  pub get_d_area : (n k : ℕ) (d : List A) (i : ℕ) (z : A) → i < k → get_or (area n k d) i z ≡ get_or d (n + i) z
  unfolding area
  get_d_area n k d i z h = get_or-take k (drop n d) i z h ∙ get_or-drop n d i z

  -- the first entries of an area
  pub take_area : (n j k : ℕ) (d : List A) → j ≤ k → take j (area n k d) ≡ area n j d
  unfolding area
  take_area n j k d h = take-take j k (drop n d) h

  -- an area by its entries
  pub tabulate_area : (n k : ℕ) (d : List A) (z : A) → n + k ≤ length d → tabulate k (λ i. get_or d (n + i) z) ≡ area n k d
  unfolding area
  tabulate_area n k d z h =
      tabulate_same k _ _ (λ i l. sym (get_or-drop n d i z)) ∙ tabulate_take k (drop n d) z (rw (length-drop n d) (omega arith))

  -- a part that is lent from n to n + k is an area
  pub area_part : (n k : ℕ) (d : List A) → take (n + k - n) (drop n d) ≡ area n k d
  unfolding area
  area_part n k d = let e : n + k - n ≡ k = omega arith in rw e refl

  -- what is laid over the start of a part that is lent is laid in the whole
  pub laid_part : (n k : ℕ) (r d : List A) → length r ≤ k → n + k ≤ length d
      → take n d ++ (over r (take k (drop n d)) ++ drop k (drop n d)) ≡ laid n r d
  unfolding laid over
  laid_part n k r d h l =
      ap (λ u. take n d ++ u)
      (append_assoc r (drop (length r) part) rest
      ∙ ap (λ u. r ++ u) (sym (drop-append-le (length r) part rest long) ∙ ap (drop (length r)) (take-append-drop k (drop n d)) ∙ drop-drop (length r) n d))
    where
      part : List A
      part = take k (drop n d)

      rest : List A
      rest = drop k (drop n d)

      long : length r ≤ length part
      long = simp (length-take, length-drop) (omega arith)

  area_front : (n k : ℕ) (a b : List A) → n + k ≤ length a → area n k (a ++ b) ≡ area n k a
  unfolding area
  area_front n k a b h =
      ap (take k) (drop-append-le n a b (omega arith)) ∙ take-append-le k (drop n a) b (rw (length-drop n a) (omega arith))

  -- ---- what lies past, at and apart from a laid part

  pub drop_laid : (n k : ℕ) (r d : List A) → n + length r ≤ k → n ≤ length d → drop k (laid n r d) ≡ drop k d
  unfolding laid
  drop_laid n k r d h l =
      ap (drop k) (sym (append_assoc (take n d) r rest))
      ∙ ap (λ i. drop i (front ++ rest)) at
      ∙ drop-append-add front rest past
      ∙ drop-drop past (n + length r) d
      ∙ ap (λ i. drop i d) sum
    where
      front : List A
      front = take n d ++ r

      rest : List A
      rest = drop (n + length r) d

      past : ℕ
      past = k - (n + length r)

      sum : n + length r + past ≡ k
      sum = omega arith

      at : k ≡ length front + past
      at = simp (length-append, length-take) (omega arith)

  pub area_laid : (n k : ℕ) (r d : List A) → length r ≡ k → n ≤ length d → area n k (laid n r d) ≡ r
  unfolding area laid
  area_laid n k r d e h = ap (take k) (drop_at (take n d) _ n (rw (length-take n d) (omega arith))) ∙ take_at r _ k e

  pub area_apart : (n k m : ℕ) (r d : List A) → Apart n k m (length r) → m ≤ length d → area n k (laid m r d) ≡ area n k d
  unfolding laid area
  area_apart n k m r d a l = ⊎_elim before past a
    where
      before : n + k ≤ m → area n k (laid m r d) ≡ area n k d
      before h =
          let e : n + k ≤ length (take m d) = rw (length-take m d) (omega arith) in
          area_front n k (take m d) _ e ∙ sym (area_front n k (take m d) (drop m d) e) ∙ ap (area n k) (take-append-drop m d)

      past : m + length r ≤ n → area n k (laid m r d) ≡ area n k d
      past h = ap (take k) (drop_laid m n r d h l)

  pub get_d_laid : (n : ℕ) (r d : List A) (i : ℕ) (z : A) → i < length r → n ≤ length d → get_or (laid n r d) (n + i) z ≡ get_or r i z
  get_d_laid n r d i z h l = sym (get_d_area n (length r) (laid n r d) i z h) ∙ ap (λ l. get_or l i z) (area_laid n (length r) r d refl l)

  pub get_d_apart : (i m : ℕ) (r d : List A) (z : A) → Apart i 1 m (length r) → m ≤ length d → get_or (laid m r d) i z ≡ get_or d i z
  get_d_apart i m r d z a l = sym (one (laid m r d)) ∙ ap (λ l. get_or l 0 z) (area_apart i 1 m r d a l) ∙ one d
    where
      one : (d : List A) → get_or (area i 1 d) 0 z ≡ get_or d i z
      one d = get_d_area i 1 d 0 z (omega arith) ∙ ap (λ k. get_or d k z) (add-zero i)

  -- ---- entries laid one after another

  -- what a store of the next entry makes of a slice that holds those before it
  pub laid_store : (n i : ℕ) (f : ℕ → A) (d : List A) {l : List A} {v : A} → n + i < length d → l ≡ laid n (tabulate i f) d → v ≡ f i
      → set l (n + i) v ≡ laid n (tabulate (i + 1) f) d
  unfolding tabulate
  laid_store n i f d h p q =
      let e = length_tabulate i f in
      ap₂ (λ l v. set l (n + i) v) p q
      ∙ ap (λ k. set (laid n (tabulate i f) d) (n + k) (f i)) (sym e)
      ∙ set_laid n (tabulate i f) d (f i) (rw e h)
      ∙ ap (λ k. laid n (tabulate k f) d) (sym (add-one i))

  -- the next entries, written to a part of their own
  pub laid_next : (n i k : ℕ) (f : ℕ → A) (d : List A) {l : List A} → n ≤ length d → l ≡ laid n (tabulate i f) d
      → laid (n + i) (tabulate k (λ j. f (i + j))) l ≡ laid n (tabulate (i + k) f) d
  laid_next n i k f d h p =
      ap (λ l. laid (n + i) next l) p
      ∙ ap (λ j. laid (n + j) next (laid n (tabulate i f) d)) (sym (length_tabulate i f))
      ∙ laid_more n (tabulate i f) next d h
      ∙ ap (λ r. laid n r d) (sym (tabulate_add i k f))
    where
      next : List A
      next = tabulate k (λ j. f (i + j))

  -- the next list, laid where the one before ends
  pub laid_after : (n k : ℕ) (r next d : List A) → n ≤ length d → k ≡ n + length r → laid k next (laid n r d) ≡ laid n (r ++ next) d
  laid_after n k r next d h e = ap (λ i. laid i next (laid n r d)) e ∙ laid_more n r next d h

  -- with what stands before n, the entries are a result over the slice
  pub laid_as_over : (n : ℕ) (r d : List A) → n ≤ length d → laid n r d ≡ over (take n d ++ r) d
  unfolding laid over
  laid_as_over n r d h =
      rw (length-append (take n d) r, length-take-le n d h) (sym (append_assoc (take n d) r (drop (n + length r) d)))

  -- ---- lists joined from parts

  pub length_joined : (w : ℕ) (f : ℕ → List A) → ((i : ℕ) → length (f i) ≡ w) → (n : ℕ) → length (joined n f) ≡ n * w
  unfolding joined
  length_joined w f e zero = omega arith
  length_joined w f e (suc n) = rw (length-append (joined n f) (f n), length_joined w f e n, e n) (omega arith)

  pub joined_same : (n : ℕ) (f g : ℕ → List A) → ((i : ℕ) → i < n → f i ≡ g i) → joined n f ≡ joined n g
  unfolding joined
  joined_same zero f g h = refl
  joined_same (suc n) f g h = ap₂ (λ l x. l ++ x) (joined_same n f g (λ i l. h i (omega arith))) (h n (omega arith))

  -- the next part, laid where i parts of length w from n on end
  pub laid_joined : (n k i w : ℕ) (f : ℕ → List A) (d : List A) → ((j : ℕ) → length (f j) ≡ w) → n ≤ length d → k ≡ n + i * w
      → laid k (f i) (laid n (joined i f) d) ≡ laid n (joined (i + 1) f) d
  unfolding joined
  laid_joined n k i w f d h l e =
      laid_after n k (joined i f) (f i) d l (e ∙ ap (λ x. n + x) (sym (length_joined w f h i)))
      ∙ ap (λ x. laid n (joined x f) d) (sym (add-one i))

  -- ---- slices that agree past a place

  pub over_past : (r d e : List A) → drop (length r) d ≡ drop (length r) e → over r d ≡ over r e
  unfolding over
  over_past r d e p = ap (λ l. r ++ l) p

  pub drop_over : (n : ℕ) (r d : List A) → length r ≤ n → drop n (over r d) ≡ drop n d
  drop_over n r d h = ap (drop n) (sym (laid_front r d)) ∙ drop_laid 0 n r d (omega arith) (omega arith)

  -- a second result of the same length hides the first
  pub over_over : (r q d : List A) → length r ≡ length q → over r (over q d) ≡ over r d
  over_over r q d e = over_past r (over q d) d (drop_over (length r) q d (omega arith))

  -- ---- free places

  -- slices of one length that agree before n and from n + k on
  pub free_between : {before after : List A} (n k : ℕ) → n + k ≤ length before → length after ≡ length before → take n after ≡ take n before
      → drop (n + k) after ≡ drop (n + k) before → Free n k before after
  unfolding area laid
  free_between {before} {after} n k h e front past =
      let many = length_area n k after (rw e h) in
      record {
        values = area n k after;
        as_many = many;
        is = sym (take-append-drop n after)
            ∙ ap₂ ◌++◌ front (sym (take-append-drop k (drop n after)) ∙ ap (λ r. area n k after ++ r) (drop-drop k n after ∙ past ∙ ap (λ j. drop (n + j) before) (sym many)));
      }

  -- places that are free at the start of a part that is lent from n on are free in the whole
  pub free_part : (n k j : ℕ) (d part : List A) → k ≤ j → n + j ≤ length d → Free 0 k (take j (drop n d)) part
      → Free n k d (take n d ++ (part ++ drop j (drop n d)))
  free_part n k j d part h l f =
      record {
        values = f.values;
        as_many = f.as_many;
        is = ap (λ p. take n d ++ (p ++ drop j (drop n d))) (f.is ∙ laid_front f.values (take j (drop n d)))
            ∙ laid_part n j f.values d (rw f.as_many h) l;
      }

  module _ {n k : ℕ} {before after : List A} (f : Free n k before after) (room : n + k ≤ length before) where
    pub free_length : length after ≡ length before
    free_length = ap length f.is ∙ length_laid n f.values before (rw f.as_many room)

    pub free_area : (i j : ℕ) → Apart i j n k → area i j after ≡ area i j before
    free_area i j a = ap (area i j) f.is ∙ area_apart i j n f.values before (rw f.as_many a) (omega arith)

    pub free_take : (i : ℕ) → i ≤ n → take i after ≡ take i before
    unfolding area
    free_take i h = free_area 0 i (inl (rw (zero-add i) h))

    pub free_drop : (i : ℕ) → n + k ≤ i → drop i after ≡ drop i before
    free_drop i h = ap (drop i) f.is ∙ drop_laid n i f.values before (rw f.as_many h) (omega arith)

    -- more places are free
    pub free_wider : (i j : ℕ) → i ≤ n → n + k ≤ i + j → i + j ≤ length before → Free i j before after
    free_wider i j h g l = free_between i j l free_length (free_take i h) (free_drop (i + j) g)

  -- some of the k places are written
  pub free_laid : (n k : ℕ) (r d : List A) → length r ≤ k → n + k ≤ length d → Free n k d (laid n r d)
  free_laid n k r d h l = free_wider (record { values = r; as_many = refl; is = refl }) (omega arith) n k (omega arith) (omega arith) l

  pub free_over : (k : ℕ) (r d : List A) → length r ≤ k → k ≤ length d → Free 0 k d (over r d)
  free_over k r d h l = rw (← laid_front r d) (free_laid 0 k r d h (omega arith))

  -- the same places stay free in a second step
  pub free_again : {n k : ℕ} {before middle after : List A} → n + k ≤ length before → Free n k before middle → Free n k middle after → Free n k before after
  free_again {n} {k} {before} {middle} room f g =
      let there : n + k ≤ length middle = rw (free_length f room) room in
      free_between n k room
      (free_length g there ∙ free_length f room)
      (free_take g there n (omega arith) ∙ free_take f room n (omega arith))
      (free_drop g there (n + k) (omega arith) ∙ free_drop f room (n + k) (omega arith))
