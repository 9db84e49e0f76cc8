-- The loop's invariant: the values passed stand over the row's first places.
use Rattle.std.proofs.Common.{◌≡◌}
use Rattle.algebra.specs.Table.{over}
use Rattle.lattice_reader.specs.Read.{values_from}
use Rattle.lattice_reader.proofs.copy_row.Given as goal

abbrev pub invariant-loop-c : goal.invariant-loop-c
invariant-loop-c l = l.row ≡ over (values_from l.file l.s l.c) l.initial.row
