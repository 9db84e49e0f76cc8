-- The code's cells as those that a call answers.
use Rattle.rules.specs.Calls as calls
use Rattle.grid.specs.declared.Cells.{Cells}

abbrev pub counts : Cells → calls.CellCounts
counts c = record { m = c.m; n = c.n }
