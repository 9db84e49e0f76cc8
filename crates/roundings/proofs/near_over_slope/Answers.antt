-- 2U³ is the power of two that the shift divides by.
use Rattle.std.proofs.Common.{◌+◌, ◌*◌, ◌^◌, ap, ◌∙◌}
use Rattle.machine.specs.Held.{itself, read, returned}
use Rattle.rules.specs.Rounding.{near}
use Rattle.roundings.proofs.Powers.{slope_power}
use Rattle.roundings.proofs.near_over_slope.Goals as goal

pub returns : goal.returns
returns c =
    let a = c.args in
    let sum = read tt (itself a.v 3_221_225_472_000_000_000 c.requires.0) in
    returned c.near_shift.type_inv c.near_shift.ensures ∙ ap (λ v. near v (2 ^ (3 * a.e + 1))) sum.is ∙ ap (near a.v) (slope_power a.e)
