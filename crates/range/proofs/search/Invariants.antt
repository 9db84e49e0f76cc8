-- The loop's invariant: no value before i is out of range, so the one that is stands at i or after it.
use Rattle.std.proofs.Common.{◌-◌, length}
use Rattle.rules.specs.Laws.Checks.{NoneOut}
use Rattle.range.proofs.search.Given as goal

abbrev pub invariant-loop-i : goal.invariant-loop-i
invariant-loop-i l = NoneOut l.i l.values

abbrev pub decreases-loop-i : goal.decreases-loop-i
decreases-loop-i l = length l.values - l.i
