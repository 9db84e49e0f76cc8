-- The loop's invariant: the columns before this one have their heights in every row.
use Prim.Native.Nat.{◌-◌, min}
use Rattle.strips.specs.Strips.{Striped}
use Rattle.raster.proofs.Within.{grid_height}
use Rattle.raster.proofs.raster_within.Given as goal

abbrev pub invariant-loop-column : goal.invariant-loop-column
invariant-loop-column l =
    Striped l.nodes.columns l.nodes.rows 0 (min l.column l.nodes.columns) (grid_height l.grid l.nodes l.lattice) l.initial.output l.output

abbrev pub decreases-loop-column : goal.decreases-loop-column
decreases-loop-column l = l.nodes.columns - l.column
