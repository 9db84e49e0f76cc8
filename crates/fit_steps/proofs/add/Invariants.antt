-- The sums passed are laid and none is out of range.
use Rattle.std.proofs.Common.{length}
use Rattle.fit_steps.specs.Steps.{sum_at}
use Rattle.fit_steps.specs.Tested.{Tested}
use Rattle.fit_steps.proofs.add.Given as goal

abbrev pub invariant-loop-q : goal.invariant-loop-q
invariant-loop-q l = Tested 0 (length l.level) l.q (sum_at l.initial.running l.level) l.initial.running l.running
