-- What the laws of `proofs/Laws/Surface` speak of.
use Rattle.std.specs.Prelude.{◌≡◌, ℕ, ◌+◌, ◌*◌, ◌≤◌, ◌<◌, nat_abs}
use Rattle.rules.specs.Grid.{Lattice}
use Rattle.rules.specs.Surface.{denominator}

-- ---- what a law may ask of lattices and positions

-- every control value of m by n cells has a size of at most B
pub record Bounded (m n : ℕ) (f : Lattice) (B : ℕ) : Type 0 where
  pub size : (s t : ℕ) → s < m + 3 → t < n + 3 → nat_abs (f s t) ≤ B

-- two lattices have the same control values on m by n cells
pub record Same (m n : ℕ) (f g : Lattice) : Type 0 where
  pub same : (s t : ℕ) → s < m + 3 → t < n + 3 → f s t ≡ g s t

-- the position (x, y) lies on m by n cells of U positions
pub record Inside (U m n x y : ℕ) : Type 0 where
  pub unit : 0 < U
  pub across : 0 < m
  pub up : 0 < n
  pub x_inside : x ≤ U * m
  pub y_inside : y ≤ U * n

-- 36U⁶, the denominator of the surface
unfoldable pub full : ℕ → ℕ
full U = denominator U * denominator U
