-- What the sums in scratch settle to, once every point is added: the rule's control values, and which of them are refused.
-- A caller of `gather` and `settle_all` takes the level lattice from values_table and the refusal from refused_table.
use Rattle.std.proofs.Common.{ℕ, ◌+◌, ◌/◌, ◌%◌, ◌<◌, ◌≡◌, ap, ◌∙◌, List}
use Rattle.std.specs.Float.Ieee.{Float}
use Rattle.algebra.specs.Table.{tabulate, over, tabulate_same}
use Rattle.rules.specs.Answers as answer
use Rattle.rules.specs.Grid.{controls, store}
use Rattle.rules.specs.Level as rule
use Rattle.rules.specs.Fit.{present, or_zero}
use Rattle.rules.proofs.Laws.Checks.{first_of_same}
use Rattle.point_sums.specs.Sums.{pair_at}
use Rattle.level_sums.specs.Gathered.{sum_table}
use Rattle.level_sums.specs.Pairs.{pair_table}
use Rattle.level_values.specs.Values.{settled_at}

module _ (U m n : ℕ) (points : List rule.Point) (d sums : List Float) (is : sums ≡ over (sum_table U m n points) d) where
  pub settled_table : (q : ℕ) → q < controls m n → settled_at (controls m n) sums q ≡ rule.fitted_at U m n points (q % (m + 3)) (q / (m + 3))
  unfolding settled_at rule.fitted_at
  settled_table q h = ap (λ s. rule.settled (rule.coefficient s)) (ap (λ l. pair_at (controls m n) l q) is ∙ pair_table U m n points d q h)

  -- the level lattice
  pub values_table : tabulate (controls m n) (λ q. or_zero (settled_at (controls m n) sums q)) ≡ store m n (λ s t. or_zero (rule.fitted_at U m n points s t))
  unfolding store
  values_table = tabulate_same (controls m n) _ _ (λ q h. ap or_zero (settled_table q h))

  -- its first refused value
  pub refused_table : (r : answer.Refusal)
      → answer.first_of (controls m n) (λ q. answer.require (present (settled_at (controls m n) sums q)) r)
      ≡ answer.first_of (controls m n) (λ q. answer.require (present (rule.fitted_at U m n points (q % (m + 3)) (q / (m + 3)))) r)
  refused_table r = first_of_same (controls m n) _ _ (λ q h. ap (λ v. answer.require (present v) r) (settled_table q h))
