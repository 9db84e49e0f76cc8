-- What the reader's parts do: a run of values read, and a whole lattice.
use Rattle.std.specs.Prelude.{ℕ, ◌+◌, ◌*◌, List, ℤ}
use Rattle.algebra.specs.Table.{tabulate}
use Rattle.rules.specs.Grid.{store}
use Rattle.rules.specs.Bytes.{value_at}
use Rattle.rules.specs.LatticeFile.{row_start}

-- k values from byte s on
abbrev pub values_from : List ℕ → ℕ → ℕ → List ℤ
values_from file s k = tabulate k (λ c. value_at file (s + 8 * c))

-- the control values of m by n cells
abbrev pub lattice_from : ℕ → ℕ → List ℕ → List ℤ
lattice_from m n file = store m n (λ s t. value_at file (row_start m t + 4 + 8 * s))
