-- What the contracts of a level's control values cite beside the rules: a quotient, or none where no point has reached a control value, as the rules' coefficient, and what pairs of sums settle to.
use Rattle.std.specs.Prelude.{ℕ, ◌≡◌, Bool, List, T, ℤ, Float, Option, Some, None}
use Rattle.std.proofs.Math.Option as maybe
use Rattle.algebra.specs.Table.{tabulate, over, Free}
use Rattle.rules.specs.Answers as answer
use Rattle.rules.specs.Level as rule
use Rattle.rules.specs.Fit.{present, or_zero}
use Rattle.answers.specs.Cause.{ok_check}
use Rattle.point_sums.specs.Sums.{pair_at}

abbrev pub coefficient_of : Option Float → rule.Coefficient
coefficient_of (Some q) = rule.fitted q
coefficient_of None = rule.untouched

-- the control value that the pair at place q settles to, none where it is refused
unfoldable pub settled_at : ℕ → List Float → ℕ → maybe.Option ℤ
settled_at count sums q = rule.settled (rule.coefficient (pair_at count sums q))

-- count pairs of sums, settled into a level: whether one is refused, the values where none is, and a level that is free in their places where one is
pub record SettledAll (count : ℕ) (sums : List Float) (ok : Bool) (before after : List ℤ) : Type 0 where
  pub found : (r : answer.Refusal) → answer.first_of count (λ q. answer.require (present (settled_at count sums q)) r) ≡ ok_check ok r
  pub is : T ok → after ≡ over (tabulate count (λ q. or_zero (settled_at count sums q))) before
  pub free : Free 0 count before after
