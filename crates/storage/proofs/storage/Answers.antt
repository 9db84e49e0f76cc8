-- The checks go in their order, and of a raster as it is promised only two of them can refuse.
use Rattle.std.proofs.Common.{◌≡◌, ℕ, ◌*◌, ◌≤◌, true, false, List, length, refl, sym, ap, ap₂, ◌∙◌, arith, to_z, of_z}
use Rattle.std.proofs.lemmas.Result.{err_from_is_err_and}
use Rattle.std.proofs.Math.Option.{none, some}
use Rattle.std.specs.Prelude.{ℤ}
use Rattle.std.specs.Int.{w64}
use Rattle.machine.specs.Tests.{plain}
use Rattle.rules.specs.Grid.{in_range}
use Rattle.rules.specs.Answers.{Refusal, range, require, Answer, accepted, refused, answer}
use Rattle.rules.specs.Calls.{stage_check}
use Rattle.rules.specs.Storage.{depths, litres, storage, pond_check, heights_check, storage_check, storage_answer}
use Rattle.rules.proofs.Laws.Checks.{then_none, then_some, answer_none, answer_value, answer_refused, none_answer, some_answer}
use Rattle.rules.proofs.Laws.Passed.{stage_passed}
use Rattle.rules.proofs.Laws.Storage.{sum_most, pond_passed, heights_passed}
use Rattle.storage.specs.Sampled.{Sampled, sampled_answer}
use Rattle.storage.proofs.Sampled.{sampled_answer_lem}
use Rattle.storage.proofs.Front.{front, front_length, front_check, front_depths}
use Rattle.storage.proofs.storage.Goals as goal
use Rattle.storage.proofs.storage.Goals.{Else-not-in_range}

-- ---- the answer, by what was found

module _ (columns rows : ℕ) (heights : List ℤ) (stage : ℤ) (s : ℕ) where
  abbrev count : ℕ
  count = columns * rows

  -- what the contract says of an answer
  abbrev Answers : Answer ℕ → Type 0
  Answers a =
      (a ≡ storage_answer columns rows heights stage s)
      × (Sampled columns rows heights → a ≡ sampled_answer columns rows heights stage s)

  of_both : {a : Answer ℕ} → a ≡ storage_answer columns rows heights stage s → Answers a
  of_both e = (e, λ sampled. e ∙ sampled_answer_lem sampled stage s)

  by_pond : {r : Refusal} → pond_check columns rows heights s ≡ some r → Answers (refused r)
  unfolding storage_answer storage_check
  by_pond e = of_both (some_answer _ (then_some (pond_check columns rows heights s) _ e))

  module _ (ponded : pond_check columns rows heights s ≡ none) where
    by_stage : in_range stage ≡ false → Answers (refused (range 0))
    unfolding storage_answer storage_check stage_check require
    by_stage e = of_both (some_answer _ (then_none (pond_check columns rows heights s) _ ponded ∙ then_some (stage_check stage) _ (ap (λ b. require b (range 0)) e)))

    module _ (staged : stage_check stage ≡ none) where
      behind : storage_check columns rows heights stage s ≡ heights_check count heights
      unfolding storage_check
      behind = then_none (pond_check columns rows heights s) _ ponded ∙ then_none (stage_check stage) _ staged

      -- what was told of the sum of depths
      module _ {t : Answer ℕ} (told : t ≡ answer (heights_check count heights) (depths count heights stage)) where
        by_heights : {r : Refusal} → t ≡ refused r → Answers (refused r)
        unfolding storage_answer
        by_heights {r} e = of_both (some_answer _ (behind ∙ answer_refused (heights_check count heights) (depths count heights stage) r (sym told ∙ e)))

        module _ {sum : ℕ} (e : t ≡ accepted sum) where
          in_range_lem : heights_check count heights ≡ none
          in_range_lem = answer_none (heights_check count heights) (depths count heights stage) sum (sym told ∙ e)

          sum_is : depths count heights stage ≡ sum
          sum_is = answer_value (heights_check count heights) (depths count heights stage) sum (sym told ∙ e)

          sum_fits : sum ≤ 537_001_992_000_000_000
          sum_fits =
              rw (← sum_is)
              (sum_most count heights stage (pond_passed columns rows heights s ponded).0 (stage_passed stage staged) (heights_passed count heights in_range_lem))

          by_sum : {v : ℕ} → v ≡ litres sum s → Answers (accepted v)
          unfolding storage_answer storage
          by_sum is = of_both (none_answer _ (behind ∙ in_range_lem) (is ∙ ap (λ d. litres d s) (sym sum_is)))

-- ---- what is known behind each check

-- `in_range` was handed the stage's bits, read back
staged : (stage : ℤ) → to_z w64 (of_z w64 stage) ≡ stage → true ≡ in_range (to_z w64 (of_z w64 stage)) → stage_check stage ≡ none
unfolding stage_check require
staged stage is e = ap (λ b. require b (range 0)) (sym (e ∙ ap in_range is))

-- what `checked_sum` tells of the first n heights, with the stage read back
summed : (n : ℕ) (heights : List ℤ) (held : n ≤ length heights) {t : Answer ℕ} (stage : ℤ) → to_z w64 (of_z w64 stage) ≡ stage
    → t ≡ answer (heights_check (length (front n heights held)) (front n heights held)) (depths (length (front n heights held)) (front n heights held) (to_z w64 (of_z w64 stage)))
    → t ≡ answer (heights_check n heights) (depths n heights stage)
summed n heights held stage is e =
    e ∙ ap₂ answer (front_check n heights held) (front_depths n heights held (to_z w64 (of_z w64 stage)) ∙ ap (depths n heights) is)

-- ---- what it answers

pub returns-in_err-pond_checks : goal.returns-in_err-pond_checks
returns-in_err-pond_checks c =
    let a = c.args in
    let f = err_from_is_err_and c.from_residual.result c.from_residual.ensures.1 in
    let p = by_pond a.columns a.rows a.heights.now a.stage a.side (sym c.in_err-pond_checks.ensures) in
    rw (f.1, f.2) (record { answer = p.0; sampled = p.1 })

pub returns-then-not-in_range : goal.returns-then-not-in_range
returns-then-not-in_range c =
    let a = c.args in
    let p = by_stage a.columns a.rows a.heights.now a.stage a.side (sym c.in_ok-pond_checks.ensures) (sym (c.if-not-in_range.ensures ∙ ap in_range (plain a.stage c.ranges.stage.sfits))) in
    record { answer = p.0; sampled = p.1 }

-- behind the checks of the pond and of the stage
module _ (c : Else-not-in_range) where
  abbrev n : ℕ
  n = c.args.columns * c.args.rows

  ponded : pond_check c.args.columns c.args.rows c.args.heights.now c.args.side ≡ none
  ponded = sym c.in_ok-pond_checks.ensures

  room : n ≤ length c.args.heights.now
  room = (pond_passed c.args.columns c.args.rows c.args.heights.now c.args.side ponded).1

  stage_in : stage_check c.args.stage ≡ none
  stage_in = staged c.args.stage (plain c.args.stage c.ranges.stage.sfits) c.if-not-in_range.ensures

  -- what `checked_sum` tells
  as_summed : {t : Answer ℕ} → t ≡ answer (heights_check (length (front n c.args.heights.now room)) (front n c.args.heights.now room)) (depths (length (front n c.args.heights.now room)) (front n c.args.heights.now room) (to_z w64 (of_z w64 c.args.stage)))
      → t ≡ answer (heights_check n c.args.heights.now) (depths n c.args.heights.now c.args.stage)
  as_summed e = summed n c.args.heights.now room c.args.stage (plain c.args.stage c.ranges.stage.sfits) e

pub returns-in_err-sum : goal.returns-in_err-sum
returns-in_err-sum c =
    let a = c.args in
    let s = (goal.at.returns-in_err-sum c).Else-not-in_range in
    let f = err_from_is_err_and c.from_residual-in_err-sum.result c.from_residual-in_err-sum.ensures.1 in
    let p = by_heights a.columns a.rows a.heights.now a.stage a.side (ponded s) (stage_in s) (as_summed s c.in_err-sum.ensures) refl in
    rw (f.1, f.2) (record { answer = p.0; sampled = p.1 })

pub returns : goal.returns
returns c =
    let a = c.args in
    let s = (goal.at.returns c).Else-not-in_range in
    let p = by_sum a.columns a.rows a.heights.now a.stage a.side (ponded s) (stage_in s) (as_summed s c.in_ok-sum.ensures) refl c.litres.ensures in
    record { answer = p.0; sampled = p.1 }

-- ---- what its steps ask

pub overflow_mul-columns : goal.overflow_mul-columns
overflow_mul-columns c =
    let a = c.args in
    omega (arith, (pond_passed a.columns a.rows a.heights.now a.side (sym c.in_ok-pond_checks.ensures)).0)

pub slice_bounds-checked_sum-end : goal.slice_bounds-checked_sum-end
slice_bounds-checked_sum-end c =
    let s = (goal.at.slice_bounds-checked_sum-end c).Else-not-in_range in
    sym (front_length (n s) c.args.heights.now (room s))

pub checked_sum-requires : goal.checked_sum-requires
checked_sum-requires c =
    let a = c.args in
    let s = (goal.at.checked_sum-requires c).Else-not-in_range in
    let is = plain a.stage c.ranges.stage.sfits in
    (omega (arith, front_length (n s) a.heights.now (room s), (pond_passed a.columns a.rows a.heights.now a.side (ponded s)).0), rw is (stage_passed a.stage (stage_in s)))

pub litres-requires : goal.litres-requires
litres-requires c =
    let a = c.args in
    let s = (goal.at.litres-requires c).Else-not-in_range in (
      sum_fits a.columns a.rows a.heights.now a.stage a.side (ponded s) (stage_in s) (as_summed s c.in_ok-sum.ensures) refl,
      (pond_passed a.columns a.rows a.heights.now a.side (ponded s)).2,
    )
