-- The loop's invariant: the top bit is still 0 exactly if no sum before the loop's is refused.
use Rattle.rules.specs.Fit.{shifted}
use Rattle.range.specs.Scan.{Scanned}
use Rattle.range.proofs.all_shifted.Given as goal

abbrev pub invariant-loop-z : goal.invariant-loop-z
invariant-loop-z l = Scanned l.z-index l.bits (shifted l.b l.values)
