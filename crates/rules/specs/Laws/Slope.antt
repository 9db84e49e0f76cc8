-- What the laws of `proofs/Laws/Slope` speak of.
use Rattle.std.specs.Prelude.{ℕ, zero, suc, ℤ, pos, ◌+ℤ◌, ◌-ℤ◌, ◌*ℤ◌}
use Rattle.algebra.specs.Solver.{Expr, con, ◌⊞◌, ◌⊠◌, ◌⊟◌, neg}
use Rattle.rules.specs.Surface.{cell, offset, weighted}

-- ---- numerators

-- `slope_numerator`, for the solver
unfoldable pub slope_quoted : Expr → Expr → ℕ → Expr
slope_quoted U a zero = neg ((U ⊟ a) ⊠ (U ⊟ a))
slope_quoted U a (suc zero) = con (pos 3) ⊠ (a ⊠ a) ⊟ con (pos 4) ⊠ a ⊠ U
slope_quoted U a (suc (suc zero)) = neg (con (pos 3)) ⊠ (a ⊠ a) ⊞ con (pos 2) ⊠ a ⊠ U ⊞ U ⊠ U
slope_quoted U a (suc (suc (suc k))) = a ⊠ a

-- what a step from a to a + h leaves beside h times the derivative, over h²
unfoldable pub bend : ℤ → ℤ → ℤ → ℕ → ℤ
bend U a h zero = pos 3 *ℤ (U -ℤ a) -ℤ h
bend U a h (suc zero) = pos 9 *ℤ a +ℤ pos 3 *ℤ h -ℤ pos 6 *ℤ U
bend U a h (suc (suc zero)) = pos 3 *ℤ U -ℤ pos 9 *ℤ a -ℤ pos 3 *ℤ h
bend U a h (suc (suc (suc k))) = pos 3 *ℤ a +ℤ h

-- what a step of h leaves beside h times the derivative, over h², in the sum along an axis
unfoldable pub bend_along : ℕ → ℕ → ℕ → ℕ → (ℕ → ℤ) → ℤ
bend_along U m x h f = weighted (bend (pos U) (pos (offset U m x)) (pos h)) f (cell U m x)
