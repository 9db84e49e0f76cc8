-- The first record that is refused is the one at i, where none before it is.
use Rattle.std.proofs.Common.{refl, sym}
use Rattle.std.proofs.lemmas.Result.{err_from_is_err_and}
use Rattle.rules.specs.Answers.{first_of}
use Rattle.rules.specs.PointFile.{file_shape, point_record_check}
use Rattle.rules.proofs.Laws.Checks.{first_of_at, first_of_more}
use Rattle.point_records.proofs.Measure.points.Goals as goal

pub loop-i-init : goal.loop-i-init
unfolding first_of
loop-i-init c = refl

pub returns-in_err-point : goal.returns-in_err-point
returns-in_err-point c =
    let file = c.args.self.now.file.now in
    let p = err_from_is_err_and c.from_residual.result c.from_residual.ensures.1 in
    rw (p.1, p.2) (sym (first_of_at c.args.p c.loop-i.i (point_record_check (file_shape file) file) _ c.loop-i.invariant c.loop-i-test.true (sym c.in_err-point.ensures)))

pub loop-i-preserved : goal.loop-i-preserved
loop-i-preserved c = first_of_more c.loop-i.i _ c.loop-i.invariant (sym c.in_ok-point.ensures)
