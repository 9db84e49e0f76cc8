-- "Basis and height" of document 01: the numerators, the exact surface and the height in two steps, for any U. Definitions only.
use Rattle.std.specs.Prelude.{ℕ, zero, suc, ◌+◌, ◌-◌, ◌*◌, ◌/◌, min, ℤ, pos, neg_ℤ, ◌+ℤ◌, ◌-ℤ◌, ◌*ℤ◌}
use Rattle.rules.specs.Rounding.{near}
use Rattle.rules.specs.Grid.{Lattice}

unfoldable pub square : ℤ → ℤ
square a = a *ℤ a

unfoldable pub cube : ℤ → ℤ
cube a = a *ℤ a *ℤ a

-- "The four numerators over 6U³ are (U-a)³, 3a³-6a²U+4U³, -3a³+3a²U+3aU²+U³, a³"
unfoldable pub numerator : ℤ → ℤ → ℕ → ℤ
numerator U a zero = cube (U -ℤ a)
numerator U a (suc zero) = pos 3 *ℤ cube a -ℤ pos 6 *ℤ square a *ℤ U +ℤ pos 4 *ℤ cube U
numerator U a (suc (suc zero)) = neg_ℤ (pos 3) *ℤ cube a +ℤ pos 3 *ℤ square a *ℤ U +ℤ pos 3 *ℤ a *ℤ square U +ℤ cube U
numerator U a (suc (suc (suc k))) = cube a

-- 6U³
unfoldable pub denominator : ℕ → ℕ
denominator U = 6 * (U * U * U)

-- "A position x lies in cell floor(x/U); the far edge belongs to the last cell with a = U"
unfoldable pub cell : ℕ → ℕ → ℕ → ℕ
cell U m x = min (x / U) (m - 1)

-- "In a cell, offset a runs 0 to U"
unfoldable pub offset : ℕ → ℕ → ℕ → ℕ
offset U m x = x - cell U m x * U

-- The sum of four weights times the four values that stand from place c on.
unfoldable pub weighted : (ℕ → ℤ) → (ℕ → ℤ) → ℕ → ℤ
weighted w f c = w 0 *ℤ f c +ℤ w 1 *ℤ f (c + 1) +ℤ w 2 *ℤ f (c + 2) +ℤ w 3 *ℤ f (c + 3)

-- The sum of products of numerators and control values along one axis. "Cell c uses control indices c-1 to c+2": the values that stand at c to c + 3.
unfoldable pub along : ℕ → ℕ → ℕ → (ℕ → ℤ) → ℤ
along U m x f = weighted (numerator (pos U) (pos (offset U m x))) f (cell U m x)

-- "The exact surface is the double sum of products of numerators and control values, over 36U⁶": the sum
unfoldable pub surface : ℕ → ℕ → ℕ → Lattice → ℕ → ℕ → ℤ
surface U m n f x y = along U n y (λ t. along U m x (λ s. f s t))

-- "The height is taken in two steps: for each of the four rows, near of the x sum over 6U³; then near of the y sum of those over 6U³"
unfoldable pub height : ℕ → ℕ → ℕ → Lattice → ℕ → ℕ → ℤ
height U m n f x y = near (along U n y (λ t. near (along U m x (λ s. f s t)) (denominator U))) (denominator U)
