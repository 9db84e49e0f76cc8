-- The cells that a file's head has, and what a run of values is judged by.
use Rattle.std.specs.Prelude.{ℕ, ◌+◌, ◌*◌, List}
use Rattle.rules.specs.Grid.{in_range}
use Rattle.rules.specs.Bytes.{value_at}
use Rattle.rules.specs.Answers.{Check, require, field}
use Rattle.rules.specs.Calls.{CellCounts}
use Rattle.rules.specs.LatticeFile.{file_m, file_n}

abbrev pub file_cells : List ℕ → CellCounts
file_cells file = record { m = file_m file; n = file_n file }

-- value c of those from byte s on
abbrev pub value_check : List ℕ → ℕ → ℕ → Check
value_check file s c = require (in_range (value_at file (s + 8 * c))) (field (s + 8 * c))
