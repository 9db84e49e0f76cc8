-- What the laws of `proofs/Laws/Levels` speak of.
use Rattle.std.specs.Prelude.{◌≡◌, ◌*ℤ◌}
use Prim.Native.Nat.{ℕ, suc, ◌-◌, ◌*◌, ◌^◌}
use Rattle.std.proofs.Math.IntN.{ℤ, pos, ◌+ℤ◌}
use Rattle.rules.specs.Grid.{Lattice, cells_at}
use Rattle.rules.specs.Surface.{surface}
use Rattle.rules.specs.Refinement.{refined}
use Rattle.rules.specs.Fit.{sum_to}
use Rattle.rules.specs.Laws.Surface.{Same}

-- ---- multiples

-- the control values of m by n cells are multiples of d
pub record Multiples (d m n : ℕ) (f : Lattice) : Type 0 where
  pub factor : Lattice
  pub is : Same m n f (λ s t. pos d *ℤ factor s t)

-- ---- all levels

-- The level lattices L and the running lattices R over m0 by n0 coarsest cells: "refine the running lattice (none at k = 0) and add level
-- lattice k to it"
pub record Levels (m0 n0 : ℕ) (L R : ℕ → Lattice) : Type 0 where
  pub first : R 0 ≡ L 0
  pub next : (k : ℕ) → Same (cells_at m0 (suc k)) (cells_at n0 (suc k)) (R (suc k)) (λ s t. refined (R k) s t +ℤ L (suc k) s t)

-- the exact surface at (x, y) of a lattice of level k with cells of u positions, times 64^k
unfoldable pub surface_at : ℕ → ℕ → ℕ → ℕ → ℕ → ℕ → Lattice → ℤ
surface_at m0 n0 x y u k f = pos (64 ^ k) *ℤ surface u (cells_at m0 k) (cells_at n0 k) f x y

-- the sum of these over the levels 0 to k, where the cells of level k have u positions
unfoldable pub surfaces_to : ℕ → ℕ → ℕ → ℕ → ℕ → ℕ → (ℕ → Lattice) → ℤ
surfaces_to m0 n0 x y u k L = sum_to k (λ j. surface_at m0 n0 x y (u * 2 ^ (k - j)) j (L j))
