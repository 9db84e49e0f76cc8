-- The loop keeps: no difference passed is out of range.
use Rattle.rules.specs.Fit.{differences}
use Rattle.rules.specs.Laws.Checks.{NoneOut}
use Rattle.base.proofs.first_far.Given as goal

abbrev pub invariant-loop-i : goal.invariant-loop-i
invariant-loop-i l = NoneOut l.i (differences l.zs)
