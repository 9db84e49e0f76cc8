-- "Refinement" of document 01. Definitions only.
use Rattle.std.specs.Prelude.{ℕ, zero, suc, ◌+◌, ◌/◌, ◌%◌, ℤ, pos, ◌+ℤ◌, ◌*ℤ◌}
use Rattle.rules.specs.Rounding.{near}
use Rattle.rules.specs.Grid.{Lattice}

-- The two masks, by the parity of the new value's place; each is weighed over the old values from place c on.
-- "New index 2i weighs old i-1, i, i+1 by (1, 6, 1)": index 2i is the odd place 2i + 1, and the old values stand at i, i + 1, i + 2.
-- "new index 2i+1 weighs old i, i+1 by (4, 4)": index 2i + 1 is the even place 2i + 2, and the old values stand at i + 1, i + 2.
unfoldable pub masked : ℕ → (ℕ → ℤ) → ℕ → ℤ
masked zero f c = pos 4 *ℤ f c +ℤ pos 4 *ℤ f (c + 1)
masked (suc odd) f c = f c +ℤ pos 6 *ℤ f (c + 1) +ℤ f (c + 2)

-- the weighted sum along one axis for the new value at place s
unfoldable pub finer : (ℕ → ℤ) → ℕ → ℤ
finer f s = masked (s % 2) f (s / 2)

-- "the doubly weighted sum"
unfoldable pub finer2 : Lattice → Lattice
finer2 f s t = finer (λ r. finer (λ q. f q r) s) t

-- "A new control value is near of the doubly weighted sum over 64"
unfoldable pub refined : Lattice → Lattice
refined f s t = near (finer2 f s t) 64
