-- A quotient rounded up, as the laws of the needed sum have it.
use Rattle.std.proofs.Common.{◌≡◌, ℕ, ◌+◌, ◌-◌, ◌/◌, ◌<◌, sym, arith}
use Rattle.std.specs.Int.{div_ceil}
use Rattle.std.proofs.lemmas.Grind.{div_ceil_times}
use native.Mathlib.Nat.{div-eq_of_lt-le}

pub rounded_up : (a d : ℕ) → 0 < d → div_ceil a d ≡ (a + (d - 1)) / d
rounded_up a d some =
    let bounds = div_ceil_times a d some in
    sym (div-eq_of_lt-le {k = div_ceil a d} d (omega (arith, bounds)) (omega (arith, bounds)))
