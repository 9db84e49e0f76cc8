-- What a storage promises beyond its equation with the rules: a higher stage never stores less, and there are at most 53,700,199,200,000,000 litres.
use Rattle.std.specs.Prelude.{◌≡◌, ℕ, ◌≤◌, List, ℤ, ◌≤ℤ◌, Result}
use Rattle.std.proofs.Common.{sym, ◌∙◌}
use Rattle.rules.specs.Answers.{accepted}
use Rattle.rules.specs.Storage.{storage, storage_check, storage_answer}
use Rattle.rules.proofs.Laws.Checks.{answer_none, answer_value}
use Rattle.rules.proofs.Laws.Storage.{storage_rises, storage_most}
use Rattle.answers.specs.Told.{told}
use Rattle.answers.specs.declared.Refusal.{Refusal}

module _ (columns rows : ℕ) (heights : List ℤ) (s : ℕ) where
  -- a call at this stage
  module _ (stage : ℤ) (r : Result ℕ Refusal) (rules : told r ≡ storage_answer columns rows heights stage s) where
    module _ (v : ℕ) (is : told r ≡ accepted v) where
      pub stored : storage columns rows heights stage s ≡ v
      unfolding storage_answer
      stored = answer_value (storage_check columns rows heights stage s) (storage columns rows heights stage s) v (sym rules ∙ is)

      pub most_litres : v ≤ 53_700_199_200_000_000
      unfolding storage_answer
      most_litres =
          rw (← stored)
          (storage_most columns rows heights stage s (answer_none (storage_check columns rows heights stage s) (storage columns rows heights stage s) v (sym rules ∙ is)))

  -- "A higher stage never stores less": two calls at two stages
  pub never_less : (low high : ℤ) (r t : Result ℕ Refusal) → told r ≡ storage_answer columns rows heights low s → told t ≡ storage_answer columns rows heights high s
      → (a b : ℕ) → told r ≡ accepted a → told t ≡ accepted b → low ≤ℤ high → a ≤ b
  never_less low high r t below above a b is-a is_b h =
      rw (← stored low r below a is-a, ← stored high t above b is_b) (storage_rises columns rows heights s low high h)
