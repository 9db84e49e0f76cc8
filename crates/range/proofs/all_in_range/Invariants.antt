-- The loop's invariant: the top bit is still 0 exactly if no value before the loop's is refused.
use Rattle.range.specs.Scan.{Scanned}
use Rattle.range.proofs.all_in_range.Given as goal

abbrev pub invariant-loop-z : goal.invariant-loop-z
invariant-loop-z l = Scanned l.z-index l.bits l.block
