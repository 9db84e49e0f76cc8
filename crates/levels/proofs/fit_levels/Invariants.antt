-- The loop's invariant: no level before k was refused, and the scratch is as level k asks.
use Rattle.std.proofs.Common.{◌*◌}
use Rattle.survey.specs.Survey.{shape_of}
use Rattle.scratch.specs.Scratch.{survey_at}
use Rattle.levels.proofs.Stepping.{Passing}
use Rattle.levels.proofs.fit_levels.Given as goal

abbrev pub invariant-loop-k : goal.invariant-loop-k
invariant-loop-k l =
    Passing (shape_of l.shape) (survey_at l.points.xs.now l.points.ys.now l.points.qs.now (3 * l.most) l.initial.whole) l.most l.k l.initial.whole l.whole l.initial.floats
    l.floats
