-- Each arm is a case of the rule.
use Rattle.std.proofs.Common.{sym, ap, ◌∙◌}
use Rattle.rules.specs.Level as rule
use Rattle.level_values.specs.Values.{coefficient_of}
use Rattle.level_values.proofs.settle.Goals as goal

pub returns-in-Some : goal.returns-in-Some
unfolding rule.settled
returns-in-Some c = c.near_float.ensures ∙ sym (ap (λ v. rule.settled (coefficient_of v)) c.in-Some.is)

pub returns-in-None : goal.returns-in-None
unfolding rule.settled
returns-in-None c = sym (ap (λ v. rule.settled (coefficient_of v)) c.in-None.is)
