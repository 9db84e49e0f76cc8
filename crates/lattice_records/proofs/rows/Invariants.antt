-- The loop's invariant: no row passed is refused.
use Rattle.std.proofs.Common.{◌≡◌}
use Rattle.std.proofs.Math.Option.{none}
use Rattle.rules.specs.Answers.{first_of}
use Rattle.rules.specs.LatticeFile.{row_check}
use Rattle.lattice_records.proofs.rows.Given as goal

abbrev pub invariant-loop-r : goal.invariant-loop-r
invariant-loop-r l = first_of l.r (row_check l.cells.m l.file) ≡ none
