-- The loop's invariant is `Walked`: no node of the rows before j is above the stage.
use Prim.Native.Nat.{◌-◌, ◌≤◌}
use lib.ListN.{take}
use Rattle.below.specs.Below.{first_cell, past_cells}
use Rattle.bands.proofs.Walk.{Walked}
use Rattle.bands.proofs.bands_above.Given as goal

abbrev pub invariant-loop-j : goal.invariant-loop-j
invariant-loop-j l =
    (l.j ≤ l.s.nodes.rows) × Walked l.s l.columns.lattice.now l.stage (first_cell (take l.s.w l.columns.cells.now)) (past_cells (take l.s.w l.columns.cells.now)) l.looked l.kept l.ring l.j

abbrev pub decreases-loop-j : goal.decreases-loop-j
decreases-loop-j l = l.s.nodes.rows - l.j
