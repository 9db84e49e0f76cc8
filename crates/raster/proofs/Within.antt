-- A raster as strips: each strip's heights are the raster's.
use mathlib.Core.Path.{◌≡◌, sym}
use mathlib.Core.List.{List}
use Prim.Native.Nat.{ℕ, ◌+◌, ◌-◌, ◌*◌, ◌^◌, ◌<◌, min}
use native.Mathlib.Nat.{mul-zero}
use native.Mathlib.Omega.{arith}
use lib.IntN.{ℤ}
use lib.ListN.{length}
use Rattle.algebra.specs.Table.{tabulate, over, over_none}
use Rattle.rules.specs.Grid.{control}
use Rattle.rules.specs.Surface.{height}
use Rattle.rules.specs.Calls.{node_x, node_y, node_height}
use Rattle.grid.specs.declared.Grid.{Grid}
use Rattle.nodes.specs.Nodes.{nodes_of}
use Rattle.nodes.specs.declared.Nodes.{Nodes}
use Rattle.raster.specs.Samplable.{Samplable}
use Rattle.strips.specs.Strips.{Striped}
use Rattle.strips.specs.Stripes.{strip_more, all_striped}

-- the height at row j and column c
abbrev pub grid_height : Grid → Nodes → List ℤ → ℕ → ℕ → ℤ
grid_height grid g l j c = height (2 ^ grid.e) grid.cells.m grid.cells.n (control grid.cells.m l) (g.x0 + g.step * c) (g.y0 + g.step * j)

-- one strip more, by its fields
pub strip_done : (grid : Grid) (g : Nodes) (l : List ℤ) (column : ℕ) {a : Grid} {h : Nodes} {from w : ℕ} → (a ≡ grid) × (h ≡ g) × (from ≡ column) × (w ≡ min (g.columns - column) 64)
    → column < g.columns → {first before after : List ℤ} → Striped g.columns g.rows 0 (min column g.columns) (grid_height grid g l) first before
    → Striped h.columns h.rows from (from + w) (grid_height a h l) before after
    → Striped g.columns g.rows 0 (min (column + 64) g.columns) (grid_height grid g l) first after
strip_done grid g l column is starts had new =
    let start : min column g.columns ≡ column = omega arith in
    let end : column + min (g.columns - column) 64 ≡ min (column + 64) g.columns = omega arith in
    strip_more g.columns g.rows (grid_height grid g l) column (min (column + 64) g.columns) (omega arith) (rw start at had) (rw (is.0, is.1, is.2, is.3, end) at new)

-- the list of all nodes
pub all_nodes : (grid : Grid) (g : Nodes) (l : List ℤ) {room : ℕ} → Samplable grid.cells.m grid.cells.n grid.e l (nodes_of g) room → {before after : List ℤ} → length before ≡ room
    → Striped g.columns g.rows 0 g.columns (grid_height grid g l) before after
    → after ≡ over (tabulate (g.columns * g.rows) (node_height grid.cells.m grid.cells.n (2 ^ grid.e) l (nodes_of g))) before
unfolding node_x node_y
all_nodes grid g l s is had = all_striped g.columns g.rows (grid_height grid g l) (rw is s.fits) had

pub no_nodes : (columns rows : ℕ) (f : ℕ → ℤ) (d : List ℤ) → rows ≡ 0 → d ≡ over (tabulate (columns * rows) f) d
unfolding tabulate
no_nodes columns rows f d e = rw (e, mul-zero columns) (sym (over_none d))
