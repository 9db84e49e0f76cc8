-- "Grid, heights and rounding" of document 01, after rounding: ranges, cells, positions and the storage of a lattice. Definitions only.
use Rattle.std.specs.Prelude.{ℕ, ◌+◌, ◌-◌, ◌*◌, ◌/◌, ◌%◌, ◌^◌, Bool, ◌&&◌, List, leb, ℤ, pos, nat_abs, get_or}
use Rattle.algebra.specs.Table.{tabulate}

-- "whole micrometres from -4,000,000,000 to 4,000,000,000 ("in range")"
abbrev pub limit : ℕ
limit = 4_000_000_000

unfoldable pub in_range : ℤ → Bool
in_range z = leb (nat_abs z) limit

-- low ≤ v ≤ high
unfoldable pub within : ℕ → ℕ → ℕ → Bool
within low high v = leb low v && leb v high

-- "a confidence q, 1 to 255", of document 02
unfoldable pub confident : ℕ → Bool
confident q = within 1 255 q

-- "Level k has m = m0 × 2^k by n = n0 × 2^k cells, each U = 16 × 2^(h-k) positions wide"
unfoldable pub cells_at : ℕ → ℕ → ℕ
cells_at m0 k = m0 * 2 ^ k

unfoldable pub unit_at : ℕ → ℕ → ℕ
unit_at h k = 16 * 2 ^ (h - k)

-- "Positions run 0 to 16 × m0 × 2^h along x, likewise y with n0, both ends included": m cells of U positions
unfoldable pub inside : ℕ → ℕ → ℕ → Bool
inside U m x = leb x (U * m)

-- A control value by its column and its row, each counted from 0: column i + 1 and row j + 1 for document 01's indices i and j, which run from -1.
abbrev pub Lattice : Type 0
Lattice = ℕ → ℕ → ℤ

-- "A lattice of m by n cells has (m+3)(n+3) control values, i from -1 to m+1, j from -1 to n+1, stored at (j+1)(m+3)+(i+1)"
unfoldable pub controls : ℕ → ℕ → ℕ
controls m n = (m + 3) * (n + 3)

unfoldable pub control : ℕ → List ℤ → Lattice
control m stored s t = get_or stored (t * (m + 3) + s) (pos 0)

unfoldable pub store : ℕ → ℕ → Lattice → List ℤ
store m n f = tabulate (controls m n) (λ q. f (q % (m + 3)) (q / (m + 3)))
