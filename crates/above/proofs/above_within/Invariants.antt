-- The loop's invariant: no node of the columns before this one is above the stage.
use Prim.Native.Nat.{◌-◌, min}
use Rattle.above.proofs.Within.{ColumnsBelow}
use Rattle.above.proofs.above_within.Given as goal

abbrev pub invariant-loop-column : goal.invariant-loop-column
invariant-loop-column l = ColumnsBelow l.grid l.lattice l.nodes l.stage (min l.column l.nodes.columns)

abbrev pub decreases-loop-column : goal.decreases-loop-column
decreases-loop-column l = l.nodes.columns - l.column
