-- The library's quotient whose remainder is not negative, by a divisor above 0, is the floor.
use Rattle.std.proofs.Common.{◌≡◌, ℕ, ℤ, pos, negsuc, refl, ap₂, ◌∙◌, arith, w64}
use Rattle.std.proofs.lemmas.Int.{to_z_pos}
use Rattle.machine.specs.Tests.{plain}
use Rattle.std.specs.Int.{int_div_euclid}
use Rattle.rules.specs.Rounding.{floor}
use Rattle.roundings.proofs.floor_over.Goals as goal

is_floor : (v : ℤ) (d : ℕ) → int_div_euclid v (pos d) ≡ floor v d
unfolding floor
is_floor (pos a) d = refl
is_floor (negsuc a) d = refl

pub returns : goal.returns
returns c =
    let a = c.args in
    plain c.div_euclid.result c.div_euclid.type_inv
    ∙ c.div_euclid.ensures
    ∙ ap₂ int_div_euclid (plain a.v c.ranges.v.sfits) (to_z_pos w64 a.d (omega arith))
    ∙ is_floor a.v a.d
