-- The loop's invariant: the records of the points before i are laid after the head.
use Rattle.std.proofs.Common.{◌≡◌}
use Rattle.algebra.specs.Table.{joined, laid}
use Rattle.rules.specs.PointFile.{pq}
use Rattle.rules.specs.Laws.PointFields.{record_of}
use Rattle.survey.specs.Survey.{survey_of}
use Rattle.point_writer.proofs.put_points.Given as goal

abbrev pub invariant-loop-i : goal.invariant-loop-i
invariant-loop-i l = l.output ≡ laid 8 (joined l.i (record_of pq (survey_of l.points))) l.initial.output
