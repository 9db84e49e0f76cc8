-- Its operations are those of the rule, in the same order.
use Rattle.std.proofs.Common.{refl}
use Rattle.rules.specs.Level as rule
use Rattle.point_sums.proofs.grown.Goals as goal

pub returns : goal.returns
unfolding rule.grown
returns c = refl
