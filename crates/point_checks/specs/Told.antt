-- What points that are told of show.
use Rattle.std.specs.Prelude.{◌≡◌, ℤ, Result, Ok, Err}
use Rattle.std.proofs.Common.{sym, ap, ◌∙◌}
use Rattle.std.proofs.Math.Option.{none, some}
use Rattle.rules.specs.Answers as rule
use Rattle.rules.proofs.Laws.Checks.{answer_none, answer_value, answer_refused}
use Rattle.answers.specs.Cause.{cause}
use Rattle.answers.specs.Told.{told}
use Rattle.answers.specs.declared.Refusal.{Refusal}

-- of a check c, and a sum v
module _ (c : rule.Check) (v : ℤ) {t : Result ℤ Refusal} (is : told t ≡ rule.answer c v) where
  pub summed : {z : ℤ} → t ≡ Ok z → (c ≡ none) × (v ≡ z)
  summed e = (answer_none _ _ _ (sym is ∙ ap told e), answer_value _ _ _ (sym is ∙ ap told e))

  pub refused : {r : Refusal} → t ≡ Err r → c ≡ some (cause r)
  refused e = answer_refused _ _ _ (sym is ∙ ap told e)
