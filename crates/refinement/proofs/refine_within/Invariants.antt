-- The rows passed are laid one after another from the start of output.
use Rattle.std.proofs.Common.{◌+◌, ◌*◌}
use Rattle.refined_rows.specs.Rows.{RowsDone}
use Rattle.refinement.proofs.refine_within.Given as goal

abbrev pub invariant-loop-t : goal.invariant-loop-t
invariant-loop-t l = RowsDone l.cells.m l.cells.n l.lattice l.initial.output 0 l.t (l.t * (2 * l.cells.m + 3)) l.sums l.output
