-- A refusal leaves the output, and an accepted list is written as its head and its records.
use Rattle.std.proofs.Common.{◌≡◌, sym, ap, ◌∙◌, List, ℕ, ◌+◌, ◌*◌, ◌%◌, ◌^◌, ◌≤◌, ◌<◌, length, arith}
use Rattle.std.proofs.Math.Option.{none, some}
use Rattle.std.proofs.lemmas.Result.{err_from_is_err_and}
use borrow.Author.Tests.{le-leb, lt-leb}
use Rattle.algebra.specs.Table.{joined, over, laid, laid_over}
use Rattle.rules.specs.Fit.{Shape, columns, rows, Survey, survey, point_count}
use Rattle.rules.specs.Answers.{Refusal, require, ◌then◌, short, accepted, refused, outcome}
use Rattle.rules.specs.Bytes.{bytes_of}
use Rattle.rules.specs.Calls.{survey_check, points_check}
use Rattle.rules.specs.PointFile.{PH, pq, point_head, point_file, point_start, point_file_length, write_points_check, write_points_call}
use Rattle.rules.proofs.Laws.Checks.{call_refused, call_accepted}
use Rattle.rules.specs.Laws.Passed.{Surveyed}
use Rattle.rules.proofs.Laws.Passed.{cells_at_most, survey_passed, cells_at_shifted}
use Rattle.rules.specs.Laws.PointFields.{record_of}
use Rattle.survey.specs.Survey.{shape_of, survey_of}
use Rattle.point_checks.specs.Told as points
use Rattle.point_writer.proofs.write_points.Goals as goal
use Rattle.point_writer.proofs.write_points.Goals.{In_ok-points, After-len-p, After-points}

module _ (a : Shape) (s : Survey) (output : List ℕ) where
  refusal : (r : Refusal) → write_points_check a s output ≡ some r → outcome (refused r) output ≡ write_points_call a s output
  unfolding write_points_call
  refusal r e = call_refused _ _ _ output r e

  at_head : (r : Refusal) → some r ≡ survey_check a s → outcome (refused r) output ≡ write_points_call a s output
  unfolding write_points_check ◌then◌
  at_head r e = refusal r (rw (← e))

  module _ (passed : none ≡ survey_check a s) where
    at_length : length output < 8 + 15 * point_count s → outcome (refused short) output ≡ write_points_call a s output
    unfolding write_points_check point_file_length point_start require ◌then◌
    at_length l = refusal short (rw (← passed, lt-leb _ _ l))

    module _ (l : 8 + 15 * point_count s ≤ length output) where
      at_point : (r : Refusal) → points_check 16 (columns a a.h) (rows a a.h) s ≡ some r → outcome (refused r) output ≡ write_points_call a s output
      unfolding write_points_check point_file_length point_start require ◌then◌
      at_point r e = refusal r (rw (← passed, le-leb _ _ l, e))

      written : {begun out : List ℕ} → points_check 16 (columns a a.h) (rows a a.h) s ≡ none
          → begun ≡ over (point_head a (point_count s)) output
          → out ≡ laid 8 (joined (point_count s) (record_of pq s)) begun
          → outcome (accepted (8 + 15 * point_count s)) out ≡ write_points_call a s output
      unfolding write_points_check write_points_call point_file point_file_length point_start point_head PH bytes_of require ◌then◌
      written e begins ends =
          let records = joined (point_count s) (record_of pq s) in
          let fine : write_points_check a s output ≡ none = rw (← passed, le-leb _ _ l, e) in
          let whole = ends ∙ ap (laid 8 records) begins ∙ laid_over (point_head a (point_count s)) records output in
          rw whole (call_accepted _ _ _ output fine)

-- the code's shifted cell counts are those of level h
at_level : (a : Shape) (s : Survey) → Surveyed a s
    → points_check 16 ((a.m0 * 2 ^ a.h) % 2 ^ 64) ((a.n0 * 2 ^ a.h) % 2 ^ 64) s ≡ points_check 16 (columns a a.h) (rows a a.h) s
unfolding columns rows
at_level a s b = rw (cells_at_shifted a.m0 a.h b.sides.1 b.levels_most, cells_at_shifted a.n0 a.h b.sides.3 b.levels_most)

shifted_most : (m h : ℕ) → m ≤ 16 → h ≤ 5 → (m * 2 ^ h) % 2 ^ 64 ≤ 512
shifted_most m h most-m most-h = rw (cells_at_shifted m h most-m most-h) (cells_at_most m h most-m most-h)

-- what the head has shown
module _ (c : In_ok-points) where
  abbrev given : Survey
  given = survey c.args.xs.now c.args.ys.now c.args.zs.now c.args.qs.now

  surveyed : Surveyed (shape_of c.args.shape) given
  surveyed = survey_passed _ given (sym c.in_ok-points.ensures.checked)

  same : survey_of c.in_ok-points.points ≡ given
  same = c.in_ok-points.ensures.points

-- how many points there are
counted : (c : After-len-p) → c.len-p.result ≡ length c.args.xs.now
counted c = c.len-p.ensures ∙ ap (λ (s : Survey). point_count s) c.in_ok-points.ensures.points

-- what the check of the points has said of these
module _ (c : After-points) where
  abbrev at : In_ok-points
  at = (goal.at.After-points c).In_ok-points

  -- the check of level h's cells is that of the shifted ones
  asked : points_check 16 (columns (shape_of c.args.shape) c.args.shape.h) (rows (shape_of c.args.shape) c.args.shape.h) (given at)
      ≡ points_check 16 ((c.args.shape.m0 * 2 ^ c.args.shape.h) % 2 ^ 64) ((c.args.shape.n0 * 2 ^ c.args.shape.h) % 2 ^ 64) (survey_of c.in_ok-points.points)
  asked = sym (at_level _ _ (surveyed at)) ∙ ap (points_check 16 _ _) (sym (same at))

pub returns-in_err-points : goal.returns-in_err-points
returns-in_err-points c =
    let a = c.args in
    let p = err_from_is_err_and c.from_residual.result c.from_residual.ensures.1 in
    rw (p.1, p.2) (at_head _ (survey a.xs.now a.ys.now a.zs.now a.qs.now) _ _ c.in_err-points.ensures.checked)

pub returns-then-output-len : goal.returns-then-output-len
returns-then-output-len c =
    let p = goal.at.returns-then-output-len c in
    at_length _ (given p.In_ok-points) _ c.in_ok-points.ensures.checked (omega (arith, counted p.After-len-p))

pub overflow_shl-cells : goal.overflow_shl-cells
overflow_shl-cells c = omega (arith, surveyed (goal.at.overflow_shl-cells c).In_ok-points)

pub overflow_shl-cells-2 : goal.overflow_shl-cells-2
overflow_shl-cells-2 c = omega (arith, surveyed (goal.at.overflow_shl-cells-2 c).In_ok-points)

pub invariant_of-cells : goal.invariant_of-cells
invariant_of-cells c =
    let b = surveyed (goal.at.invariant_of-cells c).In_ok-points in
    record { few = (shifted_most _ _ b.sides.1 b.levels_most, shifted_most _ _ b.sides.3 b.levels_most) }

pub returns-in_err-points-2 : goal.returns-in_err-points-2
returns-in_err-points-2 c =
    let g = goal.at.returns-in_err-points-2 c in
    let p = err_from_is_err_and c.from_residual-in_err-points-2.result c.from_residual-in_err-points-2.ensures.1 in
    rw (p.1, p.2)
    (at_point _ (given g.In_ok-points) _ c.in_ok-points.ensures.checked (omega (arith, counted g.After-len-p)) _
    (asked g.After-points ∙ points.refused _ _ c.points.ensures c.in_err-points-2.was))

pub put_head-requires : goal.put_head-requires
put_head-requires c =
    let b = surveyed (goal.at.put_head-requires c).In_ok-points in
    (omega arith, omega arith, omega arith, omega arith, omega arith)

pub returns : goal.returns
returns c =
    let g = goal.at.returns c in
    let count = counted g.After-len-p in
    let records = c.put_points.ensures ∙ ap (λ s. laid 8 (joined (point_count s) (record_of pq s)) c.put_head.new.output) (same g.In_ok-points) in
    rw count
    (written _ (given g.In_ok-points) _ c.in_ok-points.ensures.checked (omega (arith, count))
    (asked g.After-points ∙ (points.summed _ _ c.points.ensures c.in_ok-points-2.was).0)
    (c.put_head.ensures ∙ ap (λ k. over (point_head (shape_of c.args.shape) k) c.args.output.now) count) records)
