-- The divisors as the code has them, for U = 2^e.
use mathlib.Core.Path.{◌≡◌, ap, ◌∙◌}
use Prim.Native.Nat.{ℕ, ◌+◌, ◌*◌, ◌^◌}
use native.Mathlib.Omega.{arith}
use lib.Pow.{pow-add}
use Rattle.rules.specs.Surface.{denominator}
use Rattle.rules.specs.Slope.{slope_denominator}

cubed : (e : ℕ) → 2 ^ (3 * e) ≡ 2 ^ e * 2 ^ e * 2 ^ e
cubed e = ap (λ k. 2 ^ k) (omega arith) ∙ pow-add 2 (e + e) e ∙ ap (λ q. q * 2 ^ e) (pow-add 2 e e)

-- 6U³
pub denominator_power : (e : ℕ) → denominator (2 ^ e) ≡ 2 * (3 * 2 ^ (3 * e))
unfolding denominator
denominator_power e = rw (cubed e) (omega arith)

-- 2U³
pub slope_power : (e : ℕ) → 2 ^ (3 * e + 1) ≡ slope_denominator (2 ^ e)
unfolding slope_denominator
slope_power e = pow-add 2 (3 * e) 1 ∙ rw (cubed e) (omega arith)
