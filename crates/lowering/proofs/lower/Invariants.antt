-- The residuals passed are lowered and none is out of range.
use Rattle.std.proofs.Common.{length}
use Rattle.fit_steps.specs.Tested.{Tested}
use Rattle.lowering.specs.Lowered.{less_height}
use Rattle.lowering.proofs.lower.Given as goal

abbrev pub invariant-loop-i : goal.invariant-loop-i
invariant-loop-i l =
    Tested 0 (length l.points.xs.now) l.i (less_height l.grid.cells.m l.grid.cells.n l.grid.e l.level l.points.xs.now l.points.ys.now l.initial.residuals) l.initial.residuals l.residuals
