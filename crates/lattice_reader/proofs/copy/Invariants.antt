-- The loop's invariant: the control values of the rows passed stand over the output's first places.
use Rattle.std.proofs.Common.{◌≡◌, List, ℕ, ◌+◌, ◌*◌, ◌/◌, ◌%◌, ℤ}
use Rattle.algebra.specs.Table.{tabulate, over}
use Rattle.rules.specs.Grid.{Lattice}
use Rattle.rules.specs.Bytes.{value_at}
use Rattle.rules.specs.LatticeFile.{row_start}
use Rattle.lattice_reader.proofs.copy.Given as goal

-- the control values, by column and row and by place
abbrev pub value : List ℕ → ℕ → Lattice
value file m s t = value_at file (row_start m t + 4 + 8 * s)

abbrev pub stored : List ℕ → ℕ → ℕ → ℤ
stored file m q = value file m (q % (m + 3)) (q / (m + 3))

abbrev pub invariant-loop-r : goal.invariant-loop-r
invariant-loop-r l = l.output ≡ over (tabulate (l.r * l.width) (stored l.file l.cells.m)) l.initial.output
