-- Laws of checks: what an accepted run of checks has shown, and which offender a refusal names.
use Rattle.std.specs.Prelude.{◌≡◌, Bool, ◌⊎◌, List, T, leb, ℤ, pos, nat_abs, get_or}
use Rattle.std.proofs.Math.Path.{refl, ap, subst}
use Rattle.std.proofs.Common.{sym, ◌∙◌, ap₂, ⊎_elim, inl, inr, add-one, not-suc-le-zero, add-zero, add-suc, arith, leb-true, leb-false, ne_eqb, leb→le, le→leb}
use Rattle.std.proofs.Math.Bool.{true, false}
use Rattle.std.proofs.Math.Option.{none, some}
use Prim.Native.Nat.{ℕ, zero, suc, ◌+◌, ◌≤◌, ◌<◌}
use Rattle.std.proofs.Math.Decide.{dec_lt}
use Rattle.std.specs.Float.Ieee.Bits.{is_true}
use Rattle.std.proofs.Math.Facts.{and_yes, yes_and}
use Rattle.rules.specs.Grid.{limit, in_range, confident, within}
use Rattle.rules.specs.Answers.{Refusal, cells, levels, unit, lists, short, position, range, confidence, difference, quotient, residual, sum, size, side, no_stage, incomplete, mark, field, trailing, number, in_levels}
use Rattle.rules.specs.Answers.{Check, require, ◌then◌, first_of, range_check, Answer, accepted, refused, answer, Outcome, outcome, call}
use Rattle.rules.specs.Laws.Checks.{FirstRefused, Only, AllInRange, NoneOut, SomeOut, FirstOut, Part, of_levels}

-- ---- one check

pub required : (b : Bool) (r : Refusal) → require b r ≡ none → T b
unfolding require
required true r e = tt
required false r e = let z : ◌≡◌ {A = ℕ} 0 1 = cc in absurd (zero_one z)
  where
    zero_one : ◌≡◌ {A = ℕ} 0 1 → ⊥
    zero_one e = omega arith

pub require_met : (b : Bool) (r : Refusal) → T b → require b r ≡ none
unfolding require
require_met true r t = refl
require_met false r t = absurd t

-- a refusal is the one that the check has, and its test has failed
pub require_refusal : (b : Bool) (r s : Refusal) → require b r ≡ some s → (b ≡ false) × (r ≡ s)
unfolding require
require_refusal true r s e = let z : true ≡ false = cc in (z, cc)
require_refusal false r s e = (refl, cc)

pub within_bounds : (low high v : ℕ) → T (within low high v) → (low ≤ v) × (v ≤ high)
unfolding within
within_bounds low high v t = let p = and_yes (leb low v) (leb v high) t in (leb→le low v p.0, leb→le v high p.1)

pub bounds_within : (low high v : ℕ) → (low ≤ v) × (v ≤ high) → T (within low high v)
unfolding within
bounds_within low high v b = yes_and (leb low v) (leb v high) (le→leb low v b.0) (le→leb v high b.1)

-- ---- one check after another

pub then_first : (c d : Check) → (c then d) ≡ none → c ≡ none
unfolding ◌then◌
then_first none d e = refl
then_first (some r) d e = e

pub then_rest : (c d : Check) → (c then d) ≡ none → d ≡ none
unfolding ◌then◌
then_rest none d e = e
then_rest (some r) d e = let z : d ≡ none = cc in z

pub then_both : (c d : Check) → (c then d) ≡ none → (c ≡ none) × (d ≡ none)
then_both c d e = (then_first c d e, then_rest c d e)

pub then_none : (c d : Check) → c ≡ none → (c then d) ≡ d
unfolding ◌then◌
then_none c d e = rw e refl

-- a check after which there is none
pub then_pass : (c : Check) → (c then none) ≡ c
unfolding ◌then◌
then_pass none = refl
then_pass (some r) = refl

pub then_some : (c d : Check) {r : Refusal} → c ≡ some r → (c then d) ≡ some r
unfolding ◌then◌
then_some c d e = rw e refl

-- a refusal is of the first, or the first refuses nothing and it is of the second
pub then_refusal : (c d : Check) (r : Refusal) → (c then d) ≡ some r → (c ≡ some r) ⊎ ((c ≡ none) × (d ≡ some r))
unfolding ◌then◌
then_refusal none d r e = inr (refl, e)
then_refusal (some s) d r e = inl e

pub then_assoc : (c d e : Check) → ((c then d) then e) ≡ (c then d then e)
unfolding ◌then◌
then_assoc none d e = refl
then_assoc (some r) d e = refl

-- ---- the first of many

pub first_of_same : (n : ℕ) (f g : ℕ → Check) → ((i : ℕ) → i < n → f i ≡ g i) → first_of n f ≡ first_of n g
unfolding first_of
first_of_same zero f g h = refl
first_of_same (suc n) f g h = ap₂ ◌then◌ (first_of_same n f g (λ i l. h i (omega arith))) (h n (omega arith))

pub first_of_none : (n : ℕ) (f : ℕ → Check) → first_of n f ≡ none → (i : ℕ) → i < n → f i ≡ none
unfolding first_of
first_of_none zero f e i h = absurd (not-suc-le-zero h)
first_of_none (suc n) f e i h = go (dec_lt i n) (first_of_none n f (then_first (first_of n f) (f n) e) i)
  where
    go : Dec (i < n) → (i < n → f i ≡ none) → f i ≡ none
    go (yes l) ih = ih l
    go (no g) ih = let same : i ≡ n = omega arith in rw same (then_rest (first_of n f) (f n) e)

pub first_of_all : (n : ℕ) (f : ℕ → Check) → ((i : ℕ) → i < n → f i ≡ none) → first_of n f ≡ none
unfolding first_of
first_of_all zero f h = refl
first_of_all (suc n) f h = then_none (first_of n f) (f n) (first_of_all n f (λ i l. h i (omega arith))) ∙ h n (omega arith)

pub first_of_more : (n : ℕ) (f : ℕ → Check) → first_of n f ≡ none → f n ≡ none → first_of (n + 1) f ≡ none
unfolding first_of
first_of_more n f e g = rw (add-one n) (then_none (first_of n f) (f n) e ∙ g)

-- the refusal of i, where none below i is refused
pub first_of_at : (n i : ℕ) (f : ℕ → Check) (r : Refusal) → first_of i f ≡ none → i < n → f i ≡ some r → first_of n f ≡ some r
unfolding first_of ◌then◌
first_of_at zero i f r e l s = absurd (not-suc-le-zero l)
first_of_at (suc n) i f r e l s = go (dec_lt i n) (first_of_at n i f r e)
  where
    go : Dec (i < n) → (i < n → f i ≡ some r → first_of n f ≡ some r) → (first_of n f then f n) ≡ some r
    go (yes k) ih = rw (ih k s) refl
    go (no g) ih = let same : i ≡ n = omega arith in then_none (first_of n f) (f n) (rw (sym same) e) ∙ rw (sym same) s

pub first_of_refusal : (n : ℕ) (f : ℕ → Check) (r : Refusal) → first_of n f ≡ some r → FirstRefused n f r
unfolding first_of
first_of_refusal zero f r e = let z : ◌≡◌ {A = ℕ} 0 1 = cc in absurd (omega arith)
first_of_refusal (suc n) f r e =
    ⊎_elim
    (λ first. let q = first_of_refusal n f r first in record { at = q.at; below = omega (arith, q.below); none_before = q.none_before; refuses = q.refuses })
    (λ last. record { at = n; below = omega arith; none_before = last.0; refuses = last.1 })
    (then_refusal (first_of n f) (f n) r e)

module _ {P : Refusal → Type 0} where
  only_none : Only P none
  only_none = record { only = λ r e. absurd (apart r e) }
    where
      apart : (r : Refusal) → none ≡ some r → ⊥
      apart r e = let z : ◌≡◌ {A = ℕ} 0 1 = cc in omega arith

  pub only_require : (b : Bool) (r : Refusal) → P r → Only P (require b r)
  unfolding require
  only_require true r p = only_none
  only_require false r p = record { only = λ s e. let same : r ≡ s = cc in subst P same p }

  pub only_then : {c d : Check} → Only P c → Only P d → Only P (c then d)
  unfolding ◌then◌
  only_then {c = none} p q = q
  only_then {c = some r} p q = p

  pub only_first_of : (n : ℕ) (f : ℕ → Check) → ((i : ℕ) → Only P (f i)) → Only P (first_of n f)
  unfolding first_of
  only_first_of zero f h = only_none
  only_first_of (suc n) f h = only_then (only_first_of n f h) (h n)

-- where all refuse alike, one of n that refuses decides
pub first_of_only : {n : ℕ} (i : ℕ) (f : ℕ → Check) (r : Refusal) → ((q : ℕ) → Only (λ t. t ≡ r) (f q)) → i < n → f i ≡ some r → first_of n f ≡ some r
first_of_only {n} i f r alike l e = go (first_of n f) refl
  where
    go : (c : Check) → first_of n f ≡ c → first_of n f ≡ some r
    go none is = is ∙ sym (first_of_none n f is i l) ∙ e
    go (some t) is = is ∙ ap some ((only_first_of n f alike).only t is)

pub in_range_size : (z : ℤ) → T (in_range z) → nat_abs z ≤ limit
unfolding in_range
in_range_size z t = leb→le (nat_abs z) limit t

pub size_in_range : (z : ℤ) → nat_abs z ≤ limit → T (in_range z)
unfolding in_range
size_in_range z h = le→leb (nat_abs z) limit h

-- a byte is a confidence exactly if it isn't 0
pub byte_sure : (q : ℕ) → 1 ≤ q → q < 256 → confident q ≡ true
unfolding confident
byte_sure q least most = is_true (within 1 255 q) (bounds_within 1 255 q (least, omega arith))

pub zero_unsure : (q : ℕ) → q ≡ 0 → confident q ≡ false
unfolding confident within
zero_unsure q e = rw e refl

pub range_check_size : (n : ℕ) (values : List ℤ) (f : ℕ → Refusal) → range_check n values f ≡ none → AllInRange n values
unfolding range_check
range_check_size n values f e i l =
    in_range_size (get_or values i (pos 0)) (required (in_range (get_or values i (pos 0))) (f i) (first_of_none n (λ i. require (in_range (get_or values i (pos 0))) (f i)) e i l))

pub only_range_check : {P : Refusal → Type 0} (n : ℕ) (values : List ℤ) (f : ℕ → Refusal) → ((i : ℕ) → P (f i)) → Only P (range_check n values f)
unfolding range_check
only_range_check n values f h = only_first_of n _ (λ i. only_require (in_range (get_or values i (pos 0))) (f i) (h i))

pub size_range_check : (n : ℕ) (values : List ℤ) (f : ℕ → Refusal) → AllInRange n values → range_check n values f ≡ none
unfolding range_check
size_range_check n values f h =
    first_of_all n (λ i. require (in_range (get_or values i (pos 0))) (f i))
    (λ i l. require_met (in_range (get_or values i (pos 0))) (f i) (size_in_range (get_or values i (pos 0)) (h i l)))

-- it has met none before its first value
pub none_out_start : (values : List ℤ) → NoneOut 0 values
unfolding range_check first_of
none_out_start values f = refl

pub none_out_more : (i : ℕ) (values : List ℤ) → NoneOut i values → T (in_range (get_or values i (pos 0))) → NoneOut (i + 1) values
unfolding range_check first_of
none_out_more i values p t f =
    rw (add-one i)
    (then_none (range_check i values f) (require (in_range (get_or values i (pos 0))) (f i)) (p f)
    ∙ require_met (in_range (get_or values i (pos 0))) (f i) t)

-- none of n is none of fewer
pub none_out_less : (i n : ℕ) (values : List ℤ) → i ≤ n → NoneOut n values → NoneOut i values
none_out_less i n values h p f = size_range_check i values f (λ j l. range_check_size n values (λ i. short) (p (λ i. short)) j (omega arith))

pub none_out_at : (n i : ℕ) (values : List ℤ) → NoneOut i values → i < n → in_range (get_or values i (pos 0)) ≡ false
    → (f : ℕ → Refusal) → range_check n values f ≡ some (f i)
unfolding range_check require
none_out_at n i values p l out f = first_of_at n i (λ j. require (in_range (get_or values j (pos 0))) (f j)) (f i) (p f) l (rw out)

pub some_out_more : (i n : ℕ) (values : List ℤ) → i ≤ n → SomeOut i values → SomeOut n values
some_out_more i n values h s p = s (none_out_less i n values h p)

-- it is not among the first i if none of those is
pub some_out_past : (i n : ℕ) (values : List ℤ) → NoneOut i values → SomeOut n values → i < n
some_out_past i n values p s = go (leb n i) refl
  where
    go : (b : Bool) → leb n i ≡ b → i < n
    go true t = absurd (s (none_out_less n i values (leb-true n i t) p))
    go false t = leb-false n i t

-- so it is the one that a check of n values refuses, if it is one of them
pub first_out_at : (n i : ℕ) (values : List ℤ) → i < n → FirstOut i values → (f : ℕ → Refusal) → range_check n values f ≡ some (f i)
first_out_at n i values l p = none_out_at n i values p.none_before l p.out

-- or if any of them is refused
pub first_out_found : (n i : ℕ) (values : List ℤ) → SomeOut n values → FirstOut i values → (f : ℕ → Refusal) → range_check n values f ≡ some (f i)
first_out_found n i values s p = first_out_at n i values (some_out_past i n values p.none_before s) p

-- a check of n values that refuses one refuses the first that is out of range
pub range_check_refusal : (n : ℕ) (values : List ℤ) (f : ℕ → Refusal) (r : Refusal) → range_check n values f ≡ some r
    → (i : ℕ) × (i < n) × FirstOut i values × (f i ≡ r)
unfolding range_check
range_check_refusal n values f r e =
    let q = first_of_refusal n (λ i. require (in_range (get_or values i (pos 0))) (f i)) r e in
    let before : NoneOut q.at values = λ g. size_range_check q.at values g (range_check_size q.at values f q.none_before) in
    let here = require_refusal _ (f q.at) r q.refuses in
    (q.at, q.below, record { none_before = before; out = here.0 }, here.1)

-- a check of the values before a part and of the part is a check of both
pub range_check_part : (i w : ℕ) (values part : List ℤ) (f : ℕ → Refusal) → Part i w values part
    → range_check (i + w) values f ≡ (range_check i values f then range_check w part (λ k. f (i + k)))
unfolding range_check first_of
range_check_part i zero values part f h = ap (λ n. range_check n values f) (add-zero i) ∙ sym (then_pass (range_check i values f))
range_check_part i (suc w) values part f h =
    ap (λ n. range_check n values f) (add-suc i w)
    ∙ ap₂ (λ c z. c then require (in_range z) (f (i + w))) (range_check_part i w values part f (λ k l. h k (omega arith))) (sym (h w (omega arith)))
    ∙ then_assoc (range_check i values f) (range_check w part (λ k. f (i + k))) (require (in_range (get_or part w (pos 0))) (f (i + w)))

-- what is refused of fewer values is refused of more
pub range_check_longer : (m n : ℕ) (values : List ℤ) (f : ℕ → Refusal) (r : Refusal) → m ≤ n → range_check m values f ≡ some r → range_check n values f ≡ some r
unfolding range_check
range_check_longer m n values f r l e =
    let each : ℕ → Check = λ i. require (in_range (get_or values i (pos 0))) (f i) in
    let q = first_of_refusal m each r e in
    first_of_at n q.at each r q.none_before (omega (arith, q.below)) q.refuses

-- the fit had begun its levels exactly if the number is one of these
pub in_levels_lem : (r : Refusal) → in_levels r ≡ of_levels (number r)
in_levels_lem cells = refl
in_levels_lem levels = refl
in_levels_lem unit = refl
in_levels_lem lists = refl
in_levels_lem short = refl
in_levels_lem (position i) = refl
in_levels_lem (range i) = refl
in_levels_lem (confidence i) = refl
in_levels_lem (difference i) = refl
in_levels_lem (quotient k) = refl
in_levels_lem (residual k) = refl
in_levels_lem (sum k) = refl
in_levels_lem size = refl
in_levels_lem side = refl
in_levels_lem no_stage = refl
in_levels_lem (incomplete b) = refl
in_levels_lem (mark b) = refl
in_levels_lem (field b) = refl
in_levels_lem (trailing b) = refl

-- and not by one of 1 to 6
pub early_number : (r : Refusal) → number r ≤ 6 → in_levels r ≡ false
early_number r l = in_levels_lem r ∙ rw (ne_eqb (number r) 7 (λ e. omega arith), ne_eqb (number r) 13 (λ e. omega arith), ne_eqb (number r) 14 (λ e. omega arith)) refl

-- no refusal has the number of an acceptance
pub number_some : (r : Refusal) → number r ≡ 0 → ⊥
number_some cells e = omega arith
number_some levels e = omega arith
number_some unit e = omega arith
number_some lists e = omega arith
number_some short e = omega arith
number_some (position i) e = omega arith
number_some (range i) e = omega arith
number_some (confidence i) e = omega arith
number_some (difference i) e = omega arith
number_some (quotient k) e = omega arith
number_some (residual k) e = omega arith
number_some (sum k) e = omega arith
number_some size e = omega arith
number_some side e = omega arith
number_some no_stage e = omega arith
number_some (incomplete b) e = omega arith
number_some (mark b) e = omega arith
number_some (field b) e = omega arith
number_some (trailing b) e = omega arith

pub answer_none : {A : Type 0} (c : Check) (a b : A) → answer c a ≡ accepted b → c ≡ none
unfolding answer
answer_none none a b e = refl
answer_none (some r) a b e = let z : some r ≡ none = cc in z

pub answer_value : {A : Type 0} (c : Check) (a b : A) → answer c a ≡ accepted b → a ≡ b
unfolding answer
answer_value none a b e = cc
answer_value (some r) a b e = cc

pub answer_refused : {A : Type 0} (c : Check) (a : A) (r : Refusal) → answer c a ≡ refused r → c ≡ some r
unfolding answer
answer_refused none a r e = let z : none ≡ some r = cc in z
answer_refused (some s) a r e = cc

-- what is answered where its check is known
pub none_answer : {A : Type 0} {c : Check} {v : A} (a : A) → c ≡ none → v ≡ a → accepted v ≡ answer c a
unfolding answer
none_answer a e is = rw (e, is) refl

pub some_answer : {A : Type 0} {c : Check} {r : Refusal} (a : A) → c ≡ some r → refused r ≡ answer c a
unfolding answer
some_answer a e = rw e refl

-- ---- calls

module _ {A B : Type 0} (c : Check) (v : A) (after lent : B) where
  pub call_refused : (r : Refusal) → c ≡ some r → outcome (refused r) lent ≡ call c v after lent
  unfolding call
  call_refused r e = rw e

  pub call_accepted : c ≡ none → outcome (accepted v) after ≡ call c v after lent
  unfolding call
  call_accepted e = rw e

  -- what the answer of a call tells of its check, and of what it returns and leaves
  module _ (t : Answer A) (s : B) (is : outcome t s ≡ call c v after lent) where
    answered : t ≡ answer c v
    unfolding call answer
    answered = ap (λ (o : Outcome A B). o.answered) is ∙ by c
      where
        by : (c : Check) → (call c v after lent).answered ≡ answer c v
        by none = refl
        by (some r) = refl

    pub call_unrefused : (b : A) → t ≡ accepted b → c ≡ none
    call_unrefused b e = answer_none c v b (sym answered ∙ e)

    pub call_value : (b : A) → t ≡ accepted b → v ≡ b
    call_value b e = answer_value c v b (sym answered ∙ e)

    pub call_after : (b : A) → t ≡ accepted b → s ≡ after
    unfolding call
    call_after b e = ap (λ (o : Outcome A B). o.slices) is ∙ rw (call_unrefused b e) refl

    pub call_refusal : (r : Refusal) → t ≡ refused r → c ≡ some r
    call_refusal r e = answer_refused c v r (sym answered ∙ e)
