-- The loop's invariant: no record passed is refused.
use Rattle.std.proofs.Common.{◌≡◌}
use Rattle.std.proofs.Math.Option.{none}
use Rattle.rules.specs.Answers.{first_of}
use Rattle.rules.specs.PointFile.{file_shape, point_record_check}
use Rattle.point_records.proofs.Measure.points.Given as goal

abbrev pub invariant-loop-i : goal.invariant-loop-i
invariant-loop-i l = first_of l.i (point_record_check (file_shape l.self.file.now) l.self.file.now) ≡ none
