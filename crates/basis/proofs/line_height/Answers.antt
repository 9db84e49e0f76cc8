use Rattle.std.proofs.Common.{◌^◌, ap, ◌∙◌}
use Rattle.machine.specs.Held.{returned}
use Rattle.rules.specs.Rounding.{near}
use Rattle.rules.specs.Surface.{denominator}
use Rattle.basis.specs.Weighing.{line_height}
use Rattle.basis.specs.Sums.{summable}
use Rattle.basis.proofs.line_height.Goals as goal

pub line_sum-requires : goal.line_sum-requires
line_sum-requires c = summable c.requires

pub returns : goal.returns
unfolding line_height
returns c = returned c.near_over.type_inv c.near_over.ensures ∙ ap (λ v. near v (denominator (2 ^ c.args.e))) (returned c.line_sum.type_inv c.line_sum.ensures.0)
