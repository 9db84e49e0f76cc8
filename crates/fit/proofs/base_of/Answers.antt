-- The check of the points, and then that of the heights with the sum that the points told.
use Rattle.std.proofs.Common.{◌≡◌, sym, ap, ◌∙◌, ◌*◌, arith, ℤ, length}
use Rattle.std.proofs.Math.Option.{none}
use Rattle.std.proofs.lemmas.Result.{err_from_is_err_and}
use Rattle.machine.specs.Held.{Held, read}
use Rattle.rules.specs.Grid.{limit}
use Rattle.rules.specs.Answers.{Check, ◌then◌, Answer, answer}
use Rattle.rules.specs.Fit.{Survey, total}
use Rattle.rules.specs.Calls.{points_check}
use Rattle.rules.proofs.Laws.Base.{total_size}
use Rattle.rules.specs.Laws.Checks.{AllInRange}
use Rattle.rules.proofs.Laws.Checks.{then_none, then_some, some_answer}
use Rattle.survey.specs.Survey.{survey_of}
use Rattle.point_checks.specs.Told as points
use Rattle.fit.proofs.Answering.{heights_ranged}
use Rattle.fit.proofs.base_of.Goals as goal
use Rattle.fit.proofs.base_of.Goals.{In_ok-sum}

told_next : (c d : Check) (b : ℤ) {t : Answer ℤ} → c ≡ none → t ≡ answer d b → t ≡ answer (c then d) b
told_next c d b e is = is ∙ ap (λ k. answer k b) (sym (then_none c d e))

-- ---- what `points` told

module _ (c : In_ok-sum) where
  abbrev s : Survey
  s = survey_of c.args.points.now

  known : (points_check 16 c.args.cells.m c.args.cells.n s ≡ none) × (total (length s.xs) s.zs ≡ c.in_ok-sum.sum)
  known = points.summed (points_check 16 c.args.cells.m c.args.cells.n s) (total (length s.xs) s.zs) c.points.ensures c.in_ok-sum.was

  many : length s.zs ≡ length s.xs
  many = c.args.points.now.as_many.1

  ranged : AllInRange (length s.zs) s.zs
  ranged = heights_ranged c.args.cells.m c.args.cells.n s many known.0

  sum_held : Held c.in_ok-sum.sum (total (length s.zs) s.zs) (65_535 * limit)
  sum_held = record {
    is = sym known.1 ∙ ap (λ n. total n s.zs) (sym many);
    size = omega (arith, total_size (length s.zs) s.zs ranged, c.args.points.now.as_many);
  }

-- ---- the goals

pub settle-requires : goal.settle-requires
settle-requires c =
    let z = (goal.at.settle-requires c).In_ok-sum in
    (omega (arith, c.args.points.now.as_many), ranged z, (read tt (sum_held z)).is)

pub returns-in_err-sum : goal.returns-in_err-sum
returns-in_err-sum c =
    let s = survey_of c.args.points.now in
    let p = err_from_is_err_and c.from_residual.result c.from_residual.ensures.1 in
    rw (p.1, p.2)
    (some_answer _ (then_some _ _ (points.refused (points_check 16 c.args.cells.m c.args.cells.n s) (total (length s.xs) s.zs) c.points.ensures c.in_err-sum.was)))

pub returns : goal.returns
returns c = told_next _ _ _ (known (goal.at.returns c).In_ok-sum).0 c.settle.ensures
