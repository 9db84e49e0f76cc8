-- The sum is that of the heights passed.
use Rattle.std.proofs.Common.{◌≡◌}
use Rattle.rules.specs.Storage as rule
use Rattle.storage.proofs.depth_sum.Given as goal

abbrev pub invariant-loop-height : goal.invariant-loop-height
invariant-loop-height l = l.sum ≡ rule.depths l.height-index l.heights l.stage
