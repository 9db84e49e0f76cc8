-- The loop's invariant: the records of the rows passed are laid from byte 6 on.
use Rattle.std.proofs.Common.{◌≡◌}
use Rattle.algebra.specs.Table.{joined, laid}
use Rattle.rules.specs.LatticeFile.{row_record}
use Rattle.lattice_writer.proofs.put_rows.Given as goal

abbrev pub invariant-loop-r : goal.invariant-loop-r
invariant-loop-r l = l.output ≡ laid 6 (joined l.r (row_record l.cells.m l.lattice)) l.initial.output
