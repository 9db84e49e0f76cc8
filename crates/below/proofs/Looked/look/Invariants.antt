-- The loop's invariant: the rows before t are looked at too.
use Prim.Native.Nat.{◌+◌}
use Rattle.below.specs.Below.{first_cell, past_cells, RowsBelow}
use Rattle.below.proofs.Looked.look.Given as goal

abbrev pub invariant-loop-t : goal.invariant-loop-t
invariant-loop-t l = RowsBelow l.stage l.m l.lattice (first_cell l.cells) (past_cells l.cells) (l.k + 4) l.t l.self.highs
