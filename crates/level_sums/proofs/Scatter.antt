-- Scattering equals gathering: each point adds to its sixteen control values where they stand in scratch, and each control value ends with the rule's sums.
use Rattle.std.proofs.Common.{◌≡◌, ℕ, zero, suc, ◌+◌, ◌-◌, ◌*◌, ◌/◌, ◌%◌, ◌<◌, ◌≤◌, Bool, true, false, cond, ◌&&◌, T, ltb, leb, List, [], ◌∷◌, ◌++◌, length, get_or, pos, sym, refl, ap, ◌∙◌, subst, ap₂, inl, inr, mul-le-mul_right, add-mul, div-add-mod', arith, le→leb, ltb→lt, lt→ltb, leb→le, ext_get_or}
use mathlib.Core.Bool.{and_comm}
use native.Mathlib.Nat.{div-eq_of_lt-le}
use native.Mathlib.Decide.{ℕ_discrete, dec_lt}
use lib.Dec.{not_T}
use lib.Ieee.{Float, nan}
use lib.Ieee.Bits.{is_true, is_false}
use mir.Facts.{and_yes, yes_and}
use Rattle.algebra.specs.Table.{tabulate, over, laid, length_tabulate, get_d_tabulate, tabulate_add, length_over, get_d_past, length_laid, get_d_laid, get_d_apart}
use Rattle.rules.specs.Grid.{controls}
use Rattle.rules.specs.Surface.{cell}
use Rattle.rules.specs.Level as rule
use Rattle.rules.proofs.Laws.Basis.{cell_below}
use Rattle.rules.proofs.Laws.Surface.{place_below}
use Rattle.rules.proofs.Laws.Passed.{controls_fit}
use Rattle.weights.specs.Block.{weight_at, point_block, weight_is, squares_are}
use Rattle.level_sums.specs.Pairs.{pair_path, length_paired, pair_over}
use Rattle.point_sums.specs.Sums.{pair_at, row, rows}
use Rattle.level_sums.specs.Gathered.{point_added, paired, sum_table}

-- ---- tests

-- s is one of the n places from c on
abbrev among : ℕ → ℕ → ℕ → Bool
among c n s = leb c s && ltb s (c + n)

module _ (c n s : ℕ) where
  bounds : T (among c n s) → (c ≤ s) × (s < c + n)
  bounds h = let p = and_yes (leb c s) (ltb s (c + n)) h in (leb→le c s p.0, ltb→lt s (c + n) p.1)

  inside : c ≤ s → s < c + n → T (among c n s)
  inside h l = yes_and (leb c s) (ltb s (c + n)) (le→leb c s h) (lt→ltb s (c + n) l)

  outside : (c ≤ s → s < c + n → ⊥) → among c n s ≡ false
  outside h = is_false (among c n s) (not_T (among c n s) (λ t. let p = bounds t in h p.0 p.1))

same_test : (c n s c' n' s' : ℕ) → (c ≤ s → s < c + n → (c' ≤ s') × (s' < c' + n')) → (c' ≤ s' → s' < c' + n' → (c ≤ s) × (s < c + n))
    → among c n s ≡ among c' n' s'
same_test c n s c' n' s' h g =
    go (among c n s) (among c' n' s')
    (λ t. let b = bounds c n s t in let k = h b.0 b.1 in inside c' n' s' k.0 k.1)
    (λ t. let b = bounds c' n' s' t in let k = g b.0 b.1 in inside c n s k.0 k.1)
  where
    go : (a b : Bool) → (T a → T b) → (T b → T a) → a ≡ b
    go true true h g = refl
    go true false h g = absurd (h tt)
    go false true h g = absurd (g tt)
    go false false h g = refl

-- ---- changes of pairs

-- the pairs of count change by g, each by its place, and nothing past them does
record Changed (count : ℕ) (g : ℕ → rule.Sums → rule.Sums) (sums now : List Float) : Type 0 where
  kept : length now ≡ length sums
  pair : (q : ℕ) → q < count → pair_at count now q ≡ g q (pair_at count sums q)
  past : (i : ℕ) → 2 * count ≤ i → get_or now i nan ≡ get_or sums i nan

module _ {count : ℕ} {g h : ℕ → rule.Sums → rule.Sums} {first second : List Float} (p : Changed count g first second) where
  changed_by : ((q : ℕ) (v : rule.Sums) → g q v ≡ h q v) → Changed count h first second
  changed_by same = record { kept = p.kept; pair = λ q l. p.pair q l ∙ same q _; past = p.past }

  changed_again : {third : List Float} → Changed count h second third → Changed count (λ q v. h q (g q v)) first third
  changed_again r =
      record { kept = r.kept ∙ p.kept; pair = λ q l. r.pair q l ∙ ap (h q) (p.pair q l); past = λ i l. r.past i l ∙ p.past i l }

  -- the same change makes the same slice
  changed_same : {third : List Float} → Changed count h first third → ((q : ℕ) (v : rule.Sums) → g q v ≡ h q v) → second ≡ third
  unfolding pair_at
  changed_same {third} r same = ext_get_or nan second third (p.kept ∙ sym r.kept) (λ i l. at i (dec_lt i count) (dec_lt i (2 * count)))
    where
      equal : (q : ℕ) → q < count → pair_at count second q ≡ pair_at count third q
      equal q l = p.pair q l ∙ same q _ ∙ sym (r.pair q l)

      at : (i : ℕ) → Dec (i < count) → Dec (i < 2 * count) → get_or second i nan ≡ get_or third i nan
      at i (yes l) d = ap (λ v. v.first) (equal i l)
      at i (no k) (yes l) = subst (λ j. get_or second j nan ≡ get_or third j nan) (omega arith) (ap (λ v. v.second) (equal (i - count) (omega arith)))
      at i (no k) (no l) = p.past i (omega arith) ∙ sym (r.past i (omega arith))

-- pairs laid over a slice
paired_changed : (count : ℕ) (f : ℕ → rule.Sums) (d : List Float) → 2 * count ≤ length d → Changed count (λ q v. f q) d (over (paired count f) d)
paired_changed count f d long =
    let many = length_paired count f in
    record { kept = length_over (paired count f) d (rw many long); pair = pair_over count f d; past = λ i l. get_d_past (paired count f) d i nan (rw many l) }

-- ---- a row of four pairs

-- an entry of a slice in which four are laid
laid_at : (n : ℕ) (g : ℕ → Float) (d : List Float) → n + 4 ≤ length d → (i : ℕ)
    → get_or (laid n (tabulate 4 g) d) i nan ≡ cond (among n 4 i) (g (i - n)) (get_or d i nan)
laid_at n g d room i = at (dec_lt i n) (dec_lt i (n + 4))
  where
    at : Dec (i < n) → Dec (i < n + 4) → get_or (laid n (tabulate 4 g) d) i nan ≡ cond (among n 4 i) (g (i - n)) (get_or d i nan)
    at (yes l) k = rw (outside n 4 i (λ h j. omega arith)) (get_d_apart i n (tabulate 4 g) d nan (inl (omega arith)) (omega arith))
    at (no k) (no l) = rw (outside n 4 i (λ h j. omega arith)) (get_d_apart i n (tabulate 4 g) d nan (inr (rw (length_tabulate 4 g) (omega arith))) (omega arith))
    at (no k) (yes l) =
        rw (is_true (among n 4 i) (inside n 4 i (omega arith) l))
        (ap (λ j. get_or (laid n (tabulate 4 g) d) j nan) (omega arith)
        ∙ get_d_laid n (tabulate 4 g) d (i - n) nan (rw (length_tabulate 4 g) (omega arith)) (omega arith)
        ∙ get_d_tabulate 4 g (i - n) nan (omega arith))

row_changed : (f : ℕ → rule.Sums → rule.Sums) (count : ℕ) (sums : List Float) (q : ℕ) → q + 4 ≤ count → 2 * count ≤ length sums
    → Changed count (λ x v. cond (among q 4 x) (f (x - q) v) v) sums (row f count sums q)
unfolding row pair_at
row_changed f count sums q room long =
    record {
      kept = length_laid (count + q) (tabulate 4 second) middle (rw (length_tabulate 4 second) second_room) ∙ middle_long;
      pair = λ x l. at x l (among q 4 x) refl;
      past = λ i l. entry i ∙ rw (outside (count + q) 4 i (λ h k. omega arith), outside q 4 i (λ h k. omega arith));
    }
  where
    first : ℕ → Float
    first k = (f k (pair_at count sums (q + k))).first

    second : ℕ → Float
    second k = (f k (pair_at count sums (q + k))).second

    middle : List Float
    middle = laid q (tabulate 4 first) sums

    middle_long : length middle ≡ length sums
    middle_long = length_laid q (tabulate 4 first) sums (rw (length_tabulate 4 first) (omega arith))

    second_room : count + q + 4 ≤ length middle
    second_room = rw middle_long (omega arith)

    entry : (i : ℕ) → get_or (row f count sums q) i nan ≡ cond (among (count + q) 4 i) (second (i - (count + q))) (cond (among q 4 i) (first (i - q)) (get_or sums i nan))
    entry i = laid_at (count + q) second middle second_room i ∙ ap (cond (among (count + q) 4 i) (second (i - (count + q)))) (laid_at q first sums (omega arith) i)

    shifted : (x : ℕ) → among (count + q) 4 (count + x) ≡ among q 4 x
    shifted x = same_test (count + q) 4 (count + x) q 4 x (λ h k. (omega arith, omega arith)) (λ h k. (omega arith, omega arith))

    at : (x : ℕ) → x < count → (b : Bool) → among q 4 x ≡ b → pair_at count (row f count sums q) x ≡ cond b (f (x - q) (pair_at count sums x)) (pair_at count sums x)
    at x l false e =
        pair_path
        (entry x ∙ rw (outside (count + q) 4 x (λ h k. omega arith), e))
        (entry (count + x) ∙ rw (shifted x, e, outside q 4 (count + x) (λ h k. omega arith)))
    at x l true e =
        let b = bounds q 4 x (subst T (sym e) tt) in
        let place : q + (x - q) ≡ x = omega arith in
        let there : count + x - (count + q) ≡ x - q = omega arith in
        pair_path
        (entry x ∙ rw (outside (count + q) 4 x (λ h k. omega arith), e) (ap (λ y. (f (x - q) (pair_at count sums y)).first) place))
        (entry (count + x) ∙ rw (shifted x, e, there) (ap (λ y. (f (x - q) (pair_at count sums y)).second) place))

-- ---- rows of four, each width places after the one before, from column c of row r of the lattice on

-- the n-th row adds to columns c to c + 3 of row r + n, and the first n rows to n such rows
abbrev part : (ℕ → ℕ → rule.Sums → rule.Sums) → ℕ → ℕ → ℕ → ℕ → ℕ → rule.Sums → rule.Sums
part f width r c n x v = cond (among r n (x / width) && among c 4 (x % width)) (f (x % width - c) (x / width - r) v) v

module _ (f : ℕ → ℕ → rule.Sums → rule.Sums) (width count r c : ℕ) (narrow : c + 4 ≤ width) (room : r * width + c + 3 * width + 4 ≤ count) (sums : List Float) (long : 2 * count ≤ length sums) where
  row_more : (n : ℕ) (before : List Float) → n < 4 → Changed count (part f width r c n) sums before
      → Changed count (part f width r c (suc n)) sums (row (λ k. f k n) count before (r * width + c + n * width))
  row_more n before most so_far = changed_by (changed_again so_far next) (λ x v. at x v (ℕ_discrete (x / width) (r + n)))
    where
      start : ℕ
      start = r * width + c + n * width

      start_is : start ≡ (r + n) * width + c
      start_is = omega (arith, add-mul r n width)

      next : Changed count (λ x v. cond (among start 4 x) (f (x - start) n v) v) before (row (λ k. f k n) count before start)
      next = row_changed (λ k. f k n) count before start (omega (arith, mul-le-mul_right {m = n} {n = 3} width (omega arith))) (rw so_far.kept long)

      at : (x : ℕ) (v : rule.Sums) → Dec (x / width ≡ r + n)
          → cond (among start 4 x) (f (x - start) n (part f width r c n x v)) (part f width r c n x v) ≡ part f width r c (suc n) x v
      at x v (yes e) =
          let place : (r + n) * width + x % width ≡ x = ap (λ t. t * width + x % width) (sym e) ∙ div-add-mod' x width in
          let column = same_test start 4 x c 4 (x % width) (λ h l. (omega (arith, start_is), omega (arith, start_is))) (λ h l. (omega (arith, start_is), omega (arith, start_is))) in
          let there : x - start ≡ x % width - c = omega (arith, start_is) in
          let row : n ≡ x / width - r = omega arith in
          rw (column, there, outside r n (x / width) (λ h l. omega arith), is_true (among r (suc n) (x / width)) (inside r (suc n) (x / width) (omega arith) (omega arith)))
          (ap (λ l. cond (among c 4 (x % width)) (f (x % width - c) l v) v) row)
      at x v (no g) =
          rw (
            outside start 4 x (λ h l. g (div-eq_of_lt-le {k = r + n} width (omega (arith, start_is)) (omega (arith, start_is, add-mul (r + n) 1 width)))),
            same_test r (suc n) (x / width) r n (x / width) (λ h l. (h, omega arith)) (λ h l. (h, omega arith)),
          )

  rows_changed : (n : ℕ) → n ≤ 4 → Changed count (part f width r c n) sums (rows f width count n sums (r * width + c))
  unfolding rows
  rows_changed zero most = record { kept = refl; pair = λ x h. rw (outside r 0 (x / width) (λ g l. omega arith)); past = λ i h. refl }
  rows_changed (suc n) most = row_more n (rows f width count n sums (r * width + c)) most (rows_changed n (omega arith))

-- ---- one point

pub controls_most : (m n : ℕ) → m ≤ 512 → n ≤ 512 → controls m n ≤ 265_225
unfolding controls
controls_most m n h k = controls_fit m n h k

-- where the first of a point's control values stands
abbrev pub place_of : ℕ → ℕ → ℕ → rule.Point → ℕ
place_of U m n p = cell U n p.y * (m + 3) + cell U m p.x

module _ (U m n : ℕ) (p : rule.Point) (across : 0 < m) (up : 0 < n) where
  -- the last of them stands in the lattice
  pub room : place_of U m n p + 3 * (m + 3) + 4 ≤ controls m n
  room =
      let c = cell U m p.x in
      let r = cell U n p.y in
      let h : c < m = cell_below U m p.x across in
      let k : r < n = cell_below U n p.y up in
      omega (arith, place_below m n (c + 3) (r + 3) (omega arith) (omega arith), add-mul r 3 (m + 3))

  point_changed : (sums : List Float) → 2 * controls m n ≤ length sums
      → Changed (controls m n) (λ q. rule.touched U m n (q % (m + 3)) (q / (m + 3)) p) sums (point_added U m n p sums)
  unfolding point_added rule.touched rule.uses
  point_changed sums long =
      changed_by
      (rows_changed f (m + 3) (controls m n) r c (omega (arith, cell_below U m p.x across)) room sums long 4 (omega arith))
      (λ q v. at (q % (m + 3)) (q / (m + 3)) v _ refl ∙ rw (and_comm (among r 4 (q / (m + 3))) (among c 4 (q % (m + 3)))))
    where
      c : ℕ
      c = cell U m p.x

      r : ℕ
      r = cell U n p.y

      f : ℕ → ℕ → rule.Sums → rule.Sums
      f k l = rule.grown (rule.float (pos p.q)) (weight_at (point_block U m n p) k l) (rule.float p.z) (rule.squares (weight_at (point_block U m n p)))

      at : (s t : ℕ) (v : rule.Sums) (b : Bool) → among r 4 t && among c 4 s ≡ b
          → cond b (f (s - c) (t - r) v) v ≡ cond b (rule.grown (rule.float (pos p.q)) (rule.weight U m n p (s - c) (t - r)) (rule.float p.z) (rule.squares (rule.weight U m n p)) v) v
      at s t v false e = refl
      at s t v true e =
          let b = and_yes (among r 4 t) (among c 4 s) (subst T (sym e) tt) in
          let x = bounds c 4 s b.1 in
          let y = bounds r 4 t b.0 in
          ap₂ (λ w squares. rule.grown (rule.float (pos p.q)) w (rule.float p.z) squares v) (weight_is U m n p (s - c) (t - r) (omega arith) (omega arith)) (squares_are U m n p)

-- ---- the table of sums

-- cleared sums are those of no points
pub none_gathered : (U m n : ℕ) → tabulate (2 * controls m n) (λ i. rule.zero64) ≡ sum_table U m n []
unfolding sum_table paired rule.gathered rule.no_sums
none_gathered U m n = ap (λ k. tabulate k (λ i. rule.zero64)) (omega arith) ∙ tabulate_add (controls m n) (controls m n) (λ i. rule.zero64)

gathered_last : (U m n s t : ℕ) (ps : List rule.Point) (p : rule.Point) (sums : rule.Sums)
    → rule.gathered U m n s t (ps ++ (p ∷ [])) sums ≡ rule.touched U m n s t p (rule.gathered U m n s t ps sums)
unfolding rule.gathered
gathered_last U m n s t [] p sums = refl
gathered_last U m n s t (first ∷ ps) p sums = gathered_last U m n s t ps p (rule.touched U m n s t first sums)

-- one point's part in the sums of those before it
pub one_more : (U m n : ℕ) (ps : List rule.Point) (p : rule.Point) (d : List Float) → 0 < m → 0 < n → 2 * controls m n ≤ length d
    → point_added U m n p (over (sum_table U m n ps) d) ≡ over (sum_table U m n (ps ++ (p ∷ []))) d
unfolding sum_table
one_more U m n ps p d across up long =
    changed_same (changed_again before (point_changed U m n p across up (over (sum_table U m n ps) d) (rw before.kept long))) (paired_changed (controls m n) _ d long)
    (λ q v. sym (gathered_last U m n (q % (m + 3)) (q / (m + 3)) ps p rule.no_sums))
  where
    before : Changed (controls m n) (λ q v. rule.gathered U m n (q % (m + 3)) (q / (m + 3)) ps rule.no_sums) d (over (sum_table U m n ps) d)
    before = paired_changed (controls m n) _ d long
