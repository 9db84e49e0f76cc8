-- "Slope along both axes" of document 02: the slope numerators, the exact slopes and the slopes in two steps, for any U. Definitions only.
use Rattle.std.specs.Prelude.{ℕ, zero, suc, ◌+◌, ◌*◌, ◌≤◌, ℤ, pos, nat_abs, neg_ℤ, ◌+ℤ◌, ◌-ℤ◌, ◌*ℤ◌}
use Rattle.rules.specs.Rounding.{near}
use Rattle.rules.specs.Grid.{Lattice}
use Rattle.rules.specs.Surface.{square, denominator, cell, offset, weighted, along}

-- "the numerators of x over 2U³ are -(U-a)², 3a²-4aU, -3a²+2aU+U², a²": over 2U³ they are the derivatives of the numerators over 6U³ (Laws/Slope)
unfoldable pub slope_numerator : ℤ → ℤ → ℕ → ℤ
slope_numerator U a zero = neg_ℤ (square (U -ℤ a))
slope_numerator U a (suc zero) = pos 3 *ℤ square a -ℤ pos 4 *ℤ a *ℤ U
slope_numerator U a (suc (suc zero)) = neg_ℤ (pos 3) *ℤ square a +ℤ pos 2 *ℤ a *ℤ U +ℤ square U
slope_numerator U a (suc (suc (suc k))) = square a

-- 2U³
unfoldable pub slope_denominator : ℕ → ℕ
slope_denominator U = 2 * (U * U * U)

-- The sum of products of slope numerators and values along one axis.
unfoldable pub slope_along : ℕ → ℕ → ℕ → (ℕ → ℤ) → ℤ
slope_along U m x f = weighted (slope_numerator (pos U) (pos (offset U m x))) f (cell U m x)

-- The exact slope along x, in micrometres per position, is the double sum of products of slope numerators of x, numerators of y and control values,
-- over 12U⁶: the sum
unfoldable pub exact_slope_x : ℕ → ℕ → ℕ → Lattice → ℕ → ℕ → ℤ
exact_slope_x U m n f x y = slope_along U m x (λ s. along U n y (λ t. f s t))

-- "Along x, each of the four columns is first taken as near of its y sum over 6U³; .. the answer is near of 1,000 times their weighted sum over 2U³",
-- in nanometres per position
unfoldable pub slope_x : ℕ → ℕ → ℕ → Lattice → ℕ → ℕ → ℤ
slope_x U m n f x y = near (pos 1_000 *ℤ slope_along U m x (λ s. near (along U n y (λ t. f s t)) (denominator U))) (slope_denominator U)

-- "Along y the axes change places."
unfoldable pub exact_slope_y : ℕ → ℕ → ℕ → Lattice → ℕ → ℕ → ℤ
exact_slope_y U m n f x y = exact_slope_x U n m (λ t s. f s t) y x

unfoldable pub slope_y : ℕ → ℕ → ℕ → Lattice → ℕ → ℕ → ℤ
slope_y U m n f x y = slope_x U n m (λ t s. f s t) y x

-- "Each slope is within 750/U + 1/2 nanometres of the exact one", whose sum over 12U⁶ is given: 2 |12U⁶ · slope - 1,000 · sum| ≤ 12U⁶ + 18,000U⁵
unfoldable pub slope_full : ℕ → ℕ
slope_full U = 12 * (U * U * U * U * U * U)

unfoldable pub SlopeClose : ℕ → ℤ → ℤ → Type 0
SlopeClose U slope sum = nat_abs (pos 2 *ℤ (pos (slope_full U) *ℤ slope -ℤ pos 1_000 *ℤ sum)) ≤ slope_full U + 18_000 * (U * U * U * U * U)
