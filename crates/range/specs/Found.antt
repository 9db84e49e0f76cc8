-- What the answer of a scan says.
use Rattle.std.specs.Prelude.{ℕ, Option, Some, None}
use Rattle.std.proofs.Math.Option.{none, some}
use Rattle.rules.specs.Answers as rule

-- a scan's finding as a check, the offender i refused by f i
abbrev pub found_check : (ℕ → rule.Refusal) → Option ℕ → rule.Check
found_check f (Some i) = some (f i)
found_check f None = none
