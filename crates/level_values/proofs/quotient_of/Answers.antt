-- Each arm has the rule's test in its way.
use Rattle.std.proofs.Common.{◌≡◌, Bool, true, false, cond}
use Rattle.std.specs.Prelude.{Float}
use Rattle.std.specs.Float.Ieee.{lt}
use Rattle.rules.specs.Level as rule
use Rattle.rules.specs.Level.{◌⊘◌}
use Rattle.level_values.proofs.quotient_of.Goals as goal

tested : (first second : Float) (b : Bool) → lt rule.zero64 second ≡ b
    → cond b (rule.fitted (first ⊘ second)) rule.untouched ≡ rule.coefficient (record { first = first; second = second })
unfolding rule.coefficient
tested first second b e = rw e

pub returns-then-sums : goal.returns-then-sums
returns-then-sums c = tested _ _ true c.if-sums.true

pub returns-else-sums : goal.returns-else-sums
returns-else-sums c = tested _ _ false c.if-sums.false
