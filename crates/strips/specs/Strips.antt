-- What the contracts of a strip's functions cite: its columns' numerators, the ring of rounded x sums, and the part of a raster that it fills.
use Rattle.std.specs.Prelude.{◌≡◌, List, ℕ, ◌+◌, ◌*◌, ◌%◌, ◌^◌, ◌≤◌, ◌<◌, ℤ, pos, nat_abs, length, get_or}
use Rattle.algebra.specs.Table.{tabulate, laid}
use Rattle.rules.specs.Rounding.{near}
use Rattle.rules.specs.Grid.{control}
use Rattle.rules.specs.Surface.{denominator, cell, weighted, height}
use Rattle.basis.specs.Weighing.{numerators}
use Rattle.basis.specs.Sums.{Based, row_height}
use Rattle.basis.specs.declared.Basis.{Basis}
use Rattle.strips.specs.declared.piece.Strip.{Strip}

-- ---- a strip's columns

-- the position of column i
abbrev pub column_x : Strip → ℕ → ℕ
column_x s i = s.nodes.x0 + s.nodes.step * (s.column + i)

-- what a list of numerators has at column i
abbrev pub taps_at : List Basis → ℕ → Basis
taps_at taps i = get_or taps i (record { b0 = pos 0; b1 = pos 0; b2 = pos 0; b3 = pos 0 })

-- the first w columns have their cells and their numerators
abbrev pub Taps : Strip → ℕ → List ℕ → List Basis → Type 0
Taps s w cells taps = (i : ℕ) → i < w → Based (2 ^ s.grid.e) s.grid.cells.m (column_x s i) (taps_at taps i) (get_or cells i 0)

-- ---- the ring

-- the rounded x sum of lattice row r at column i
abbrev pub column_sum : Strip → List ℤ → ℕ → ℕ → ℤ
column_sum s lattice r i = row_height (2 ^ s.grid.e) s.grid.cells.m lattice (column_x s i) r

-- of the four lattice rows before last, the ring has the sums of those before next, at columns `from` to `to` - 1
pub record Ringed (s : Strip) (lattice : List ℤ) (from to last next : ℕ) (ring : List ℤ) : Type 0 where
  pub whole : length ring ≡ 256
  pub sum : (r i : ℕ) → last ≤ r + 4 → r < next → from ≤ i → i < to → get_or ring (r % 4 * 64 + i) (pos 0) ≡ column_sum s lattice r i

-- the ring is as it was at columns before `from` and from `to` on
pub record Spared (from to : ℕ) (before after : List ℤ) : Type 0 where
  pub left : (r i : ℕ) → i < from → get_or after (r % 4 * 64 + i) (pos 0) ≡ get_or before (r % 4 * 64 + i) (pos 0)
  pub right : (r i : ℕ) → to ≤ i → i < 64 → get_or after (r % 4 * 64 + i) (pos 0) ≡ get_or before (r % 4 * 64 + i) (pos 0)

-- ---- nodes

-- the four sums of the rows from cell on that a node reads
abbrev pub RingInRange : ℕ → ℕ → List ℤ → Type 0
RingInRange cell i ring = (r : ℕ) → cell ≤ r → r < cell + 4 → nat_abs (get_or ring (r % 4 * 64 + i) (pos 0)) ≤ 4_000_000_000

unfoldable pub node_sum : Basis → List ℤ → ℕ → ℕ → ℤ
node_sum b ring cell i = weighted (numerators b) (λ r. get_or ring (r % 4 * 64 + i) (pos 0)) cell

unfoldable pub node_at : ℕ → Basis → List ℤ → ℕ → ℕ → ℤ
node_at e b ring cell i = near (node_sum b ring cell i) (denominator (2 ^ e))

-- the height at row j and column c of the raster
abbrev pub height_at : Strip → List ℤ → ℕ → ℕ → ℤ
height_at s lattice j c = height (2 ^ s.grid.e) s.grid.cells.m s.grid.cells.n (control s.grid.cells.m lattice) (s.nodes.x0 + s.nodes.step * c) (s.nodes.y0 + s.nodes.step * j)

-- ---- a strip's rows

abbrev pub row_cell : Strip → ℕ → ℕ
row_cell s j = cell (2 ^ s.grid.e) s.grid.cells.n (s.nodes.y0 + s.nodes.step * j)

-- row j is on the grid and has its place, and the ring has the lattice rows below next
pub record RowDue (s : Strip) (j next : ℕ) (lattice ring : List ℤ) (room : ℕ) : Type 0 where
  pub inside : s.nodes.y0 + s.nodes.step * j ≤ 2 ^ s.grid.e * s.grid.cells.n
  pub next_most : next ≤ row_cell s j + 4
  pub ringed : Ringed s lattice 0 s.w next next ring
  pub fits : j * s.nodes.columns + s.column + s.w ≤ room

pub record RowDone (s : Strip) (j next : ℕ) (lattice ring before after : List ℤ) : Type 0 where
  pub next_is : next ≡ row_cell s j + 4
  pub ringed : Ringed s lattice 0 s.w next next ring
  pub filled : after ≡ laid (j * s.nodes.columns + s.column) (tabulate s.w (λ i. height_at s lattice j (s.column + i))) before

-- the rows of a strip are on the grid and have their places
pub record Room (s : Strip) (rows room : ℕ) : Type 0 where
  pub inside : (j : ℕ) → j < rows → s.nodes.y0 + s.nodes.step * j ≤ 2 ^ s.grid.e * s.grid.cells.n
  pub fits : s.nodes.columns * rows ≤ room

-- ---- what a strip leaves

-- a raster of `columns` columns, of whose first `rows` rows the entries of the columns `from` to `to` - 1 are now those of f (row, column); all other entries
-- are as they were
pub record Striped (columns rows from to : ℕ) (f : ℕ → ℕ → ℤ) (before after : List ℤ) : Type 0 where
  pub same_length : length after ≡ length before
  pub inside : (j c : ℕ) → j < rows → from ≤ c → c < to → get_or after (j * columns + c) (pos 0) ≡ f j c
  pub left : (j c : ℕ) → j < rows → c < from → get_or after (j * columns + c) (pos 0) ≡ get_or before (j * columns + c) (pos 0)
  pub right : (j c : ℕ) → j < rows → to ≤ c → c < columns → get_or after (j * columns + c) (pos 0) ≡ get_or before (j * columns + c) (pos 0)
  pub past : (q : ℕ) → rows * columns ≤ q → get_or after q (pos 0) ≡ get_or before q (pos 0)
