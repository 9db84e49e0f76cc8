-- The loop's invariant: the bytes of the values passed are laid from byte s on.
use Rattle.std.proofs.Common.{◌≡◌}
use Rattle.algebra.specs.Table.{laid}
use Rattle.lattice_writer.specs.Written.{bytes_of_values}
use Rattle.lattice_writer.proofs.put_values.Given as goal

abbrev pub invariant-loop-c : goal.invariant-loop-c
invariant-loop-c l = l.output ≡ laid l.s (bytes_of_values l.values l.c) l.initial.output
