-- Columns of a raster that a strip has: they lie on the grid.
use Rattle.std.specs.Prelude.{ℕ, ◌+◌, ◌*◌, ◌^◌, ◌≤◌, ◌<◌}
use Rattle.grid.specs.declared.Grid.{Grid}
use Rattle.nodes.specs.declared.Nodes.{Nodes}

-- w columns from `column` on
pub record Inside (grid : Grid) (nodes : Nodes) (column w : ℕ) : Type 0 where
  pub width : w ≤ 64
  pub narrow : column + w ≤ nodes.columns
  pub along_x : (i : ℕ) → i < w → nodes.x0 + nodes.step * (column + i) ≤ 2 ^ grid.e * grid.cells.m
