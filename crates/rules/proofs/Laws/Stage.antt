-- Laws of the stage for a wanted storage: it is the lowest, there is one lowest at most, and where 4,000,000,000 stores less no stage stores enough; and how
-- code finds it: the sum of depths that stores the wanted litres, and how fast that sum rises with the stage.
use Rattle.std.specs.Prelude.{◌≡◌, cond, ◌↔◌, ◌⊎◌, List, T, ℤ, pos, neg_ℤ, nat_abs, ◌+ℤ◌, get_or, ◌≤ℤ◌, ◌<ℤ◌}
use Rattle.std.proofs.Math.Path.{refl, ap, ap₂, subst}
use Rattle.std.proofs.Common.{◌∙◌, inl, inr, add-one, not-suc-le-zero, add-zero, add-suc, zero-mul, mul-le-mul_right, mul-pos, lit<, le→leb}
use Rattle.std.proofs.Math.Bool.{Bool, true, false}
use Rattle.std.proofs.Math.Logic.{⊎_elim}
use Rattle.std.proofs.Math.Option.{none, some}
use Prim.Native.Nat.{ℕ, zero, suc, ◌+◌, ◌-◌, ◌*◌, ◌/◌, ◌%◌, ◌≤◌, ◌<◌}
use Rattle.std.proofs.Math.Nat.{add-le-add}
use Rattle.std.proofs.Math.Decide.{dec_lt}
use native.Mathlib.Omega.{arith}
use borrow.Author.Tests.{leb-true, leb-false, le-leb, lt-leb}
use Rattle.std.proofs.Math.Dec.{leb}
use Rattle.std.specs.Float.Ieee.Bits.{is_true}
use Rattle.algebra.specs.Difference.{split, whole, pos_part-⊝}
use Rattle.algebra.specs.Size.{product_ceil, nat_abs_range, ≤ℤ_antisym, ≤ℤ_or-<ℤ}
use Rattle.rules.specs.Grid.{limit}
use Rattle.rules.specs.Answers.{no_stage, number, require, ◌then◌, accepted, refused}
use Rattle.rules.specs.Calls.{counts_check}
use Rattle.rules.specs.Storage.{depth, depths, litres, storage, side_check, pond_check, heights_check}
use Rattle.rules.specs.Stage.{LowestStage, enough, lowest_of, stage_at, stage_for, reach_check, stage_for_check, stage_for_answer}
use Rattle.rules.specs.Laws.Checks.{Only}
use Rattle.rules.proofs.Laws.Needed.{needed_stores}
use Rattle.rules.proofs.Laws.Checks.{required, require_met, require_refusal, then_rest, then_none, then_some, then_refusal, only_require, only_then, only_range_check, answer_none, answer_value, answer_refused}
use Rattle.rules.proofs.Laws.Storage.{storage_rises}
use Rattle.rules.specs.Laws.Stage.{needed_sum, wet, wets}

-- ---- the lowest of many

not_both : {b : Bool} → b ≡ false → b ≡ true → ⊥
not_both f t = let z : ◌≡◌ {A = ℕ} 0 1 = cc in omega arith

-- k is the lowest of 0, 1, .. n - 1 for which t holds
record LowestIs (n : ℕ) (t : ℕ → Bool) (k : ℕ) : Type 0 where
  below : k < n
  holds : t k ≡ true
  not_before : (i : ℕ) → i < k → t i ≡ false

-- not the first, but one behind it
lowest_later : (n : ℕ) (t : ℕ → Bool) (k : ℕ) → t 0 ≡ false → LowestIs n (λ i. t (suc i)) k → LowestIs (suc n) t (suc k)
lowest_later n t k is rest = record { below = omega (arith, rest.below); holds = rest.holds; not_before = before }
  where
    before : (i : ℕ) → i < suc k → t i ≡ false
    before zero h = is
    before (suc i) h = rest.not_before i (omega arith)

-- where it holds for one of them there is a lowest
lowest_of_is : (n j : ℕ) (t : ℕ → Bool) → j < n → t j ≡ true → LowestIs n t (lowest_of n t)
unfolding lowest_of
lowest_of_is zero j t l e = absurd (not-suc-le-zero l)
lowest_of_is (suc n) j t l e = go (t 0) refl j l e (λ i. lowest_of_is n i (λ k. t (suc k)))
  where
    go : (b : Bool) → t 0 ≡ b → (j : ℕ) → j < suc n → t j ≡ true
        → ((i : ℕ) → i < n → t (suc i) ≡ true → LowestIs n (λ k. t (suc k)) (lowest_of n (λ k. t (suc k))))
        → LowestIs (suc n) t (cond b 0 (suc (lowest_of n (λ k. t (suc k)))))
    go true is j l e later = record { below = omega arith; holds = is; not_before = λ i h. absurd (not-suc-le-zero h) }
    go false is zero l e later = absurd (not_both is e)
    go false is (suc i) l e later = lowest_later n t _ is (later i (omega arith) e)

-- what has none before it and holds, or is n, is what is looked for
pub lowest_of_found : (n k : ℕ) (t : ℕ → Bool) → k ≤ n → ((i : ℕ) → i < k → t i ≡ false) → (k ≡ n) ⊎ (t k ≡ true) → lowest_of n t ≡ k
unfolding lowest_of
lowest_of_found zero k t l before end = omega arith
lowest_of_found (suc n) zero t l before end = ⊎_elim (λ e. absurd (omega arith)) (λ e. ap (λ b. cond b 0 (suc (lowest_of n (λ i. t (suc i))))) e) end
lowest_of_found (suc n) (suc k) t l before end =
    ap (λ b. cond b 0 (suc (lowest_of n (λ i. t (suc i))))) (before 0 (omega arith))
    ∙ ap suc (lowest_of_found n k (λ i. t (suc i)) (omega arith) (λ i h. before (suc i) (omega arith)) (⊎_elim (λ e. inl (omega arith)) inr end))

pub lowest_of_most : (n : ℕ) (t : ℕ → Bool) → lowest_of n t ≤ n
unfolding lowest_of
lowest_of_most zero t = omega arith
lowest_of_most (suc n) t = go (t 0) (lowest_of_most n (λ k. t (suc k)))
  where
    go : (b : Bool) → lowest_of n (λ k. t (suc k)) ≤ n → cond b 0 (suc (lowest_of n (λ k. t (suc k)))) ≤ suc n
    go true l = omega arith
    go false l = omega arith

pub lowest_of_same : (n : ℕ) (t u : ℕ → Bool) → ((i : ℕ) → t i ≡ u i) → lowest_of n t ≡ lowest_of n u
unfolding lowest_of
lowest_of_same zero t u h = refl
lowest_of_same (suc n) t u h = ap₂ (λ b r. cond b 0 (suc r)) (h 0) (lowest_of_same n (λ i. t (suc i)) (λ i. u (suc i)) (λ i. h (suc i)))

-- ---- stages by their numbers

pub stage_in_range : (k : ℕ) → (nat_abs (stage_at k) ≤ limit) ↔ (k ≤ 8_000_000_000)
unfolding stage_at
stage_in_range k = simp whole (omega arith)

pub stage_order : (i k : ℕ) → (stage_at i ≤ℤ stage_at k) ↔ (i ≤ k)
unfolding stage_at
stage_order i k = simp whole (omega arith)

-- a stage in range has a number, and one below it a lower number
stage_number : (z : ℤ) → nat_abs z ≤ limit → stage_at (nat_abs (z +ℤ pos limit)) ≡ z
unfolding stage_at
stage_number z = rw (split z) (simp whole (omega arith))

number_lower : (z : ℤ) (k : ℕ) → nat_abs z ≤ limit → z <ℤ stage_at k → nat_abs (z +ℤ pos limit) < k
unfolding stage_at
number_lower z k = rw (split z) (simp whole (omega arith))

highest : stage_at 8_000_000_000 ≡ pos limit
unfolding stage_at
highest = refl

module _ (columns rows : ℕ) (heights : List ℤ) (wanted s : ℕ) where
  abbrev Lowest : ℤ → Type 0
  Lowest = LowestStage columns rows heights wanted s

  abbrev stored : ℤ → ℕ
  stored stage = storage columns rows heights stage s

  -- where every stage with a lower number stores less
  lowest_number : (k : ℕ) → k ≤ 8_000_000_000 → wanted ≤ stored (stage_at k) → ((i : ℕ) → i < k → stored (stage_at i) < wanted) → Lowest (stage_at k)
  lowest_number k l h before = record {
    in_range = (stage_in_range k).1 l;
    stores = h;
    no_lower = λ z size less. subst (λ z. stored z < wanted) (stage_number z size) (before _ (number_lower z k size less));
  }

  -- "the lowest stage" is one stage
  pub lowest_unique : (a b : ℤ) → Lowest a → Lowest b → a ≡ b
  lowest_unique a b la lb = ⊎_elim (λ le. ⊎_elim (λ ge. ≤ℤ_antisym le ge) (λ less. absurd (lower lb la less)) (≤ℤ_or-<ℤ b a)) (λ less. absurd (lower la lb less)) (≤ℤ_or-<ℤ a b)
    where
      lower : {a b : ℤ} → Lowest b → Lowest a → a <ℤ b → ⊥
      lower {a} lb la less = omega (arith, lb.no_lower a la.in_range less, la.stores)

  -- "None is reported precisely where even 4,000,000,000 stores less": else there is a lowest, and it is the rules'
  pub stage_lowest : reach_check columns rows heights wanted s ≡ none → Lowest (stage_for columns rows heights wanted s)
  unfolding reach_check stage_for enough
  stage_lowest reached =
      let t : ℕ → Bool = λ k. leb wanted (stored (stage_at k)) in
      let q = lowest_of_is 8_000_000_001 8_000_000_000 t (lit< tt) (is_true _ (rw highest (required (leb wanted (stored (pos limit))) no_stage reached))) in
      lowest_number (lowest_of 8_000_000_001 t) (omega (arith, q.below)) (leb-true _ _ q.holds) (λ i h. leb-false _ _ (q.not_before i h))

  -- "Wanted 0 gives -4,000,000,000"
  pub nothing_wanted : wanted ≡ 0 → stage_for columns rows heights wanted s ≡ neg_ℤ (pos limit)
  unfolding stage_for enough stage_at
  nothing_wanted e = ap stage_at (lowest_of_found 8_000_000_001 0 _ (omega arith) (λ i l. absurd (not-suc-le-zero l)) (inr (le-leb wanted _ (omega arith))))

  -- and no stage in range stores enough where that one doesn't
  pub none_stores : stored (pos limit) < wanted → (stage : ℤ) → nat_abs stage ≤ limit → stored stage < wanted
  none_stores less stage size = omega (arith, storage_rises columns rows heights s stage (pos limit) ((nat_abs_range stage limit).0 size).1)

  -- what is accepted is the lowest
  pub answer_lowest : (z : ℤ) → stage_for_answer columns rows heights wanted s ≡ accepted z → Lowest z
  unfolding stage_for_answer stage_for_check
  answer_lowest z e =
      let a = then_rest (pond_check columns rows heights s) _ (answer_none _ (stage_for columns rows heights wanted s) z e) in
      subst Lowest (answer_value _ (stage_for columns rows heights wanted s) z e) (stage_lowest (then_rest (heights_check (columns * rows) heights) _ a))

  -- ---- 18, by the number of the stage

  abbrev test : ℕ → Bool
  test k = enough columns rows heights wanted s (stage_at k)

  number_least : T (enough columns rows heights wanted s (pos limit)) → lowest_of 8_000_000_001 test < 8_000_000_001
  number_least t = (lowest_of_is 8_000_000_001 8_000_000_000 test (lit< tt) (is_true _ (rw highest t))).below

  number_none : stored (pos limit) < wanted → lowest_of 8_000_000_001 test ≡ 8_000_000_001
  unfolding enough
  number_none less =
      lowest_of_found 8_000_000_001 8_000_000_001 test (omega arith) (λ i l. lt-leb wanted _ (none_stores less (stage_at i) ((stage_in_range i).1 (omega arith)))) (inl refl)

  -- the checks before it never give 18
  other_refusals : Only (λ r. number r ≡ 18 → ⊥) (pond_check columns rows heights s then heights_check (columns * rows) heights)
  unfolding pond_check counts_check side_check heights_check
  other_refusals =
      only_then
      (only_then (only_require _ _ (λ e. omega arith)) (only_then (only_require _ _ (λ e. omega arith)) (only_require _ _ (λ e. omega arith))))
      (only_range_check _ _ _ (λ i e. omega arith))

  -- 18 is given where 4,000,000,000 stores less, and nowhere else
  pub reach_less : stored (pos limit) < wanted → reach_check columns rows heights wanted s ≡ some no_stage
  unfolding reach_check enough require
  reach_less less = ap (λ b. require b no_stage) (lt-leb wanted _ less)

  pub none_reaches : stage_for_answer columns rows heights wanted s ≡ refused no_stage → stored (pos limit) < wanted
  unfolding stage_for_answer stage_for_check reach_check enough
  none_reaches e =
      ⊎_elim
      (λ pond. absurd (other_refusals.only no_stage (then_some (pond_check columns rows heights s) _ pond) refl))
      (λ rest. ⊎_elim
      (λ height. absurd (other_refusals.only no_stage (then_none (pond_check columns rows heights s) _ rest.0 ∙ height) refl))
      (λ last. leb-false wanted _ (require_refusal (leb wanted (stored (pos limit))) no_stage no_stage last.1).0)
      (then_refusal (heights_check (columns * rows) heights) _ no_stage rest.1))
      (then_refusal (pond_check columns rows heights s) _ no_stage (answer_refused _ (stage_for columns rows heights wanted s) no_stage e))

  pub reach_refused : lowest_of 8_000_000_001 test ≡ 8_000_000_001 → reach_check columns rows heights wanted s ≡ some no_stage
  unfolding reach_check require
  reach_refused e = go (enough columns rows heights wanted s (pos limit)) number_least
    where
      go : (b : Bool) → (T b → lowest_of 8_000_000_001 test < 8_000_000_001) → require b no_stage ≡ some no_stage
      go true h = absurd (omega (arith, h tt))
      go false h = refl

  pub reach_passed : lowest_of 8_000_000_001 test < 8_000_000_001 → reach_check columns rows heights wanted s ≡ none
  unfolding reach_check enough
  reach_passed l = go (dec_lt (stored (pos limit)) wanted)
    where
      go : Dec (stored (pos limit) < wanted) → require (leb wanted (stored (pos limit))) no_stage ≡ none
      go (yes less) = absurd (omega (arith, number_none less))
      go (no g) = require_met (leb wanted (stored (pos limit))) no_stage (le→leb wanted (stored (pos limit)) (omega arith))

pub needed_some : (wanted s : ℕ) → 0 < s → 0 < wanted → 0 < needed_sum wanted s
unfolding litres
needed_some wanted s h l = go (dec_lt 0 (needed_sum wanted s))
  where
    nothing : litres 0 s ≡ 0
    nothing = ap (λ v. v / 100_000) (zero-mul (s * s))

    go : Dec (0 < needed_sum wanted s) → 0 < needed_sum wanted s
    go (yes k) = k
    go (no g) = let least = (needed_stores wanted s 0 h).1 (omega (arith, g)) in absurd (omega (arith, least, nothing))

-- with no product that leaves 64 bits where the sum doesn't
pub needed_parts : (wanted s : ℕ) → 0 < s → needed_sum wanted s ≡ wanted / (s * s) * 100_000 + (wanted % (s * s) * 100_000 + (s * s - 1)) / (s * s)
unfolding needed_sum
needed_parts wanted s h = product_ceil wanted 100_000 (s * s) (mul-pos h h)

depth_next : (k : ℕ) (z : ℤ) → depth (stage_at (k + 1)) z ≡ depth (stage_at k) z + wet (stage_at (k + 1)) z
unfolding wet depth stage_at
depth_next k z = rw (split z) (simp (whole, pos_part-⊝) (omega arith))

wet_rises : (i k : ℕ) (z : ℤ) → i ≤ k → wet (stage_at i) z ≤ wet (stage_at k) z
unfolding wet depth stage_at
wet_rises i k z = rw (split z) (simp (whole, pos_part-⊝) (omega arith))

depth_none : (stage z : ℤ) → stage ≤ℤ z → depth stage z ≡ 0
unfolding depth
depth_none stage z = rw (split stage, split z) (simp (whole, pos_part-⊝) (omega arith))

module _ (heights : List ℤ) where
  -- the sums of depths, and of wet nodes, at a stage by its number
  abbrev sum_at : ℕ → ℕ → ℕ
  sum_at n k = depths n heights (stage_at k)

  abbrev wet_at : ℕ → ℕ → ℕ
  wet_at n k = wets n heights (stage_at k)

  pub sum_next : (n k : ℕ) → sum_at n (k + 1) ≡ sum_at n k + wet_at n (k + 1)
  unfolding depths wets
  sum_next zero k = refl
  sum_next (suc n) k = omega (arith, sum_next n k, depth_next k (get_or heights n (pos 0)))

  pub wets_rise : (n i k : ℕ) → i ≤ k → wet_at n i ≤ wet_at n k
  unfolding wets
  wets_rise zero i k l = omega arith
  wets_rise (suc n) i k l = add-le-add (wets_rise n i k l) (wet_rises i k (get_or heights n (pos 0)) l)

  pub wets_most : (n : ℕ) (stage : ℤ) → wets n heights stage ≤ n
  unfolding wets wet
  wets_most zero stage = omega arith
  wets_most (suc n) stage = omega (arith, wets_most n stage)

  -- g micrometres higher: at most what is wet there for each of them
  pub sum_climbs : (n k g : ℕ) → sum_at n (k + g) ≤ sum_at n k + wet_at n (k + g) * g
  sum_climbs n k zero = rw (add-zero k) (omega arith)
  sum_climbs n k (suc g) =
      rw (add-suc k g, ← add-one (k + g))
      (omega (arith, sum_climbs n k g, sum_next n (k + g), mul-le-mul_right g (wets_rise n (k + g) (k + g + 1) (omega arith))))

  -- no node is wet at a stage that no height is below
  pub sum_none : (n k : ℕ) → ((i : ℕ) → i < n → stage_at k ≤ℤ get_or heights i (pos 0)) → sum_at n k ≡ 0
  unfolding depths
  sum_none zero k h = refl
  sum_none (suc n) k h = ap₂ ◌+◌ (sum_none n k (λ i l. h i (omega arith))) (depth_none (stage_at k) _ (h n (omega arith)))
