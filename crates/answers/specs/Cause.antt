-- The code's refusals as those of the rules: `number` and `place` of the rules then give document 01's number and place for each case.
use Rattle.std.specs.Prelude.{◌≡◌, Bool, true, false}
use Rattle.std.proofs.Common.{sym, ap, ◌∙◌}
use Rattle.std.proofs.Math.Option.{none, some}
use Rattle.std.specs.Prelude.{Result, Ok, Err}
use Rattle.rules.specs.Answers as rule
use Rattle.answers.specs.declared.Refusal.{Refusal}
use Rattle.answers.specs.declared.Refusal.TheVariants.{Cells, Levels, Unit, Lists, Short, Position, Range, Confidence, Difference, Quotient, Residual, Sum, Size, Side, NoStage, Incomplete, Mark, Field, Trailing}

abbrev pub cause : Refusal → rule.Refusal
cause Cells = rule.cells
cause Levels = rule.levels
cause Unit = rule.unit
cause Lists = rule.lists
cause Short = rule.short
cause (Position i) = rule.position i
cause (Range i) = rule.range i
cause (Confidence i) = rule.confidence i
cause (Difference i) = rule.difference i
cause (Quotient k) = rule.quotient k
cause (Residual k) = rule.residual k
cause (Sum k) = rule.sum k
cause Size = rule.size
cause Side = rule.side
cause NoStage = rule.no_stage
cause (Incomplete b) = rule.incomplete b
cause (Mark b) = rule.mark b
cause (Field b) = rule.field b
cause (Trailing b) = rule.trailing b

-- what a result says as a check: an Ok, of whatever value, refuses nothing
abbrev pub check : {A : Type 0} → Result A Refusal → rule.Check
check (Ok v) = none
check (Err r) = some (cause r)

-- a yes or no as a check: no is refused by r
abbrev pub ok_check : Bool → rule.Refusal → rule.Check
ok_check true r = none
ok_check false r = some r

-- a function is promised to return a result x whose check is k, and x is known to be v: so k is the check of v
pub found : {A : Type 0} {x v : Result A Refusal} {k : rule.Check} → check x ≡ k → x ≡ v → k ≡ check v
found e is = sym e ∙ ap check is
