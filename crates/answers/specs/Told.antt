-- Document 01's answer for each result of a call.
use Rattle.std.specs.Prelude.{Result, Ok, Err}
use Rattle.rules.specs.Answers as rule
use Rattle.answers.specs.Cause.{cause}
use Rattle.answers.specs.declared.Refusal.{Refusal}

-- the value as the rules have it is f of the code's
abbrev pub told_as : {A B : Type 0} → (A → B) → Result A Refusal → rule.Answer B
told_as f (Ok v) = rule.accepted (f v)
told_as f (Err r) = rule.refused (cause r)

abbrev pub told : {A : Type 0} → Result A Refusal → rule.Answer A
told r = told_as (λ v. v) r
