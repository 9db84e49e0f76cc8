-- How a strip is read: its columns and its rows lie on the grid, and from row to row the ring has the sums that make the heights.
use Rattle.std.specs.Prelude.{◌≡◌, refl, ◌⊎◌, List, ℕ, ◌+◌, ◌-◌, ◌*◌, ◌^◌, ◌≤◌, ◌<◌, min, max, ℤ, length}
use Rattle.std.proofs.Math.Path.{ap}
use Rattle.std.proofs.Common.{◌∙◌, ⊎_elim, mul-le-mul_left, le_trans, not-suc-le-zero, arith, pow_pos}
use Rattle.rules.specs.Rounding.{near}
use Rattle.rules.specs.Surface.{denominator}
use Rattle.rules.proofs.Laws.Basis.{cell_below, cell_mono, weighted_reads}
use Rattle.rules.proofs.Laws.Passed.{edge_fits}
use Rattle.basis.specs.Weighing.{Weighs, Located, Grounded, numerators, weight_size}
use Rattle.basis.specs.Sums.{On, Based, on_grid, placed, weight_most, row_within, height_is}
use Rattle.basis.specs.declared.Basis.{Basis}
use Rattle.basis.specs.declared.Spot.{Spot}
use Rattle.grid.specs.declared.Grid.{Grid}
use Rattle.nodes.specs.declared.Nodes.{Nodes}
use Rattle.strips.specs.Inside.{Inside}
use Rattle.strips.specs.Strips.{column_x, Ringed, Spared, RingInRange, node_sum, height_at, row_cell}
use Rattle.strips.specs.declared.piece.Strip.{Strip}

-- ---- a strip of a raster

-- its 64 columns, or what is left of them, are columns of the raster
pub strip_inside : {grid : Grid} {nodes : Nodes} {column : ℕ}
    → (column < nodes.columns) × ((c : ℕ) → c < nodes.columns → nodes.x0 + nodes.step * c ≤ 2 ^ grid.e * grid.cells.m)
    → Inside grid nodes column (min (nodes.columns - column) 64)
strip_inside {column = column} p =
    record { width = omega arith; narrow = omega arith; along_x = λ i h. p.1 (column + i) (omega arith) }

-- of a strip by its fields
module _ {grid : Grid} {nodes : Nodes} {column : ℕ} (s : Strip) (is : (s.grid ≡ grid) × (s.nodes ≡ nodes) × (s.column ≡ column) × (s.w ≡ min (nodes.columns - column) 64)) where
  pub strip_ground : {l : List ℤ} → Grounded grid.cells.m grid.cells.n grid.e l → Grounded s.grid.cells.m s.grid.cells.n s.grid.e l
  strip_ground g = rw is.0 g

  pub strip_width : s.w ≡ min (nodes.columns - column) 64
  strip_width = is.3

-- ---- a column

module _ (s : Strip) (i : ℕ) (h : i < s.w) where
  pub column_fits : column_x s i ≤ 512 * 512
  column_fits = le_trans (s.inside.along_x i h) (edge_fits s.grid.e s.grid.cells.m s.grid.gridded.e_most s.grid.gridded.m_most)

  pub on_column : On (2 ^ s.grid.e) s.grid.cells.m (column_x s i)
  on_column = on_grid s.grid.e s.grid.cells.m (column_x s i) s.grid.gridded.e_most s.grid.gridded.m_some (s.inside.along_x i h)

-- ---- the ring from row to row

module _ {s : Strip} {l : List ℤ} {from to : ℕ} {ring : List ℤ} where
  -- before the first row no lattice row is in the ring
  pub none_ringed : length ring ≡ 256 → Ringed s l from to 0 0 ring
  none_ringed e = record { whole = e; sum = λ r i a b. absurd (not-suc-le-zero b) }

  -- of the four lattice rows from k on, the ring has those below next
  pub from_ringed : (k : ℕ) {next start : ℕ} → next ≤ k + 4 → start ≡ max next k → Ringed s l from to next next ring → Ringed s l from to (k + 4) start ring
  from_ringed k most is had = record { whole = had.whole; sum = λ r i a b m n. had.sum r i (omega arith) (omega arith) m n }

-- the next lattice row to sum is none past those of a later row
pub next_more : (s : Strip) (j : ℕ) {next : ℕ} → next ≡ row_cell s j + 4 → (k : ℕ) → j + 1 ≤ k → next ≤ row_cell s k + 4
next_more s j e k h =
    let later : j ≤ k = omega arith in
    omega (arith, cell_mono (2 ^ s.grid.e) s.grid.cells.n (s.nodes.y0 + s.nodes.step * j) (s.nodes.y0 + s.nodes.step * k) (pow_pos s.grid.e) (omega (arith, mul-le-mul_left s.nodes.step later)))

-- ---- columns that a ring's sums spare

pub spared_none : (from to : ℕ) (ring : List ℤ) → Spared from to ring ring
spared_none from to ring = record { left = λ r i h. refl; right = λ r i m n. refl }

pub spared_more : {from to : ℕ} {before between after : List ℤ} → Spared from to before between → Spared from to between after → Spared from to before after
spared_more p q = record { left = λ r i h. q.left r i h ∙ p.left r i h; right = λ r i m n. q.right r i m n ∙ p.right r i m n }

-- sums at other columns stay
pub spared_ringed : {s : Strip} {l : List ℤ} {a b last next from to : ℕ} {before after : List ℤ} → Spared from to before after → length after ≡ 256 → b ≤ 64
    → (b ≤ from) ⊎ (to ≤ a) → Ringed s l a b last next before → Ringed s l a b last next after
spared_ringed spared whole narrow other had =
    record {
      whole = whole;
      sum =
          λ r i late below m n.
          ⊎_elim (λ h. spared.left r i (omega arith)) (λ h. spared.right r i (omega arith) (omega arith)) other ∙ had.sum r i late below m n;
    }

-- ---- a row

module _ (s : Strip) {p : Spot} {y : ℕ} (found : Located p (2 ^ s.grid.e) s.grid.cells.n y) where
  pub below : p.cell < s.grid.cells.n
  below = rw found.cell_is (cell_below (2 ^ s.grid.e) s.grid.cells.n y s.grid.gridded.n_some)

  pub ring_in_range : {l : List ℤ} {from to : ℕ} {ring : List ℤ} → Grounded s.grid.cells.m s.grid.cells.n s.grid.e l
      → Ringed s l from to (p.cell + 4) (p.cell + 4) ring → (i : ℕ) → from ≤ i → i < to → to ≤ s.w → RingInRange p.cell i ring
  ring_in_range grounded has i m n w r a b =
      rw (has.sum r i (omega arith) b m n) (row_within grounded (s.inside.along_x i (omega arith)) r (omega (arith, below)))

module _ (s : Strip) (j : ℕ) (inside : s.nodes.y0 + s.nodes.step * j ≤ 2 ^ s.grid.e * s.grid.cells.n) where
  abbrev y : ℕ
  y = s.nodes.y0 + s.nodes.step * j

  pub row_fits : y ≤ 512 * 512
  row_fits = le_trans inside (edge_fits s.grid.e s.grid.cells.n s.grid.gridded.e_most s.grid.gridded.n_most)

  pub on_row : On (2 ^ s.grid.e) s.grid.cells.n y
  on_row = on_grid s.grid.e s.grid.cells.n y s.grid.gridded.e_most s.grid.gridded.n_some inside

  module _ {p : Spot} (found : Located p (2 ^ s.grid.e) s.grid.cells.n y) {b : Basis} {unit : ℕ} (is : unit ≡ 2 ^ s.grid.e) (weighs : Weighs b unit p.offset) where
    up : Based (2 ^ s.grid.e) s.grid.cells.n y b p.cell
    up = placed is on_row found weighs

    pub row_weight : weight_size b ≤ 805_306_368
    row_weight = weight_most on_row up

    pub node_is : {l : List ℤ} {from to : ℕ} {ring : List ℤ} → Ringed s l from to (p.cell + 4) (p.cell + 4) ring
        → (i : ℕ) → from ≤ i → i < to → near (node_sum b ring p.cell i) (denominator (2 ^ s.grid.e)) ≡ height_at s l j (s.column + i)
    unfolding node_sum
    node_is {l} has i m n =
        ap (λ v. near v (denominator (2 ^ s.grid.e))) (weighted_reads (numerators b) _ _ p.cell (λ r a b. has.sum r i (omega arith) b m n))
        ∙ height_is up s.grid.cells.m l (column_x s i)
