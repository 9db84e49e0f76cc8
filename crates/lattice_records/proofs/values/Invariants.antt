-- The loop's invariant: no value passed is refused.
use Rattle.std.proofs.Common.{◌≡◌}
use Rattle.std.proofs.Math.Option.{none}
use Rattle.rules.specs.Answers.{first_of}
use Rattle.lattice_records.specs.Judged.{value_check}
use Rattle.lattice_records.proofs.values.Given as goal

abbrev pub invariant-loop-c : goal.invariant-loop-c
invariant-loop-c l = first_of l.c (value_check l.file l.s) ≡ none
