-- The rounding of the y sum.
use Rattle.std.proofs.Common.{ap, ◌∙◌, ◌^◌}
use Rattle.machine.specs.Held.{returned}
use Rattle.rules.specs.Rounding.{near}
use Rattle.rules.specs.Surface.{denominator}
use Rattle.strips.specs.Strips.{node_at}
use Rattle.strips.proofs.ring.node.Goals as goal

pub returns : goal.returns
unfolding node_at
returns c =
    returned c.near_over_tested.type_inv c.near_over_tested.ensures
    ∙ ap (λ v. near v (denominator (2 ^ c.args.e))) (returned c.node_sum.type_inv c.node_sum.ensures.0)
