-- What storage can refuse of a raster as it is promised: the side and the stage.
use Rattle.std.specs.Prelude.{◌≡◌, ℕ, ◌*◌, List, ℤ}
use Rattle.std.proofs.Common.{ap, ◌∙◌}
use Rattle.rules.specs.Answers.{◌then◌, answer}
use Rattle.rules.specs.Calls.{stage_check}
use Rattle.rules.specs.Storage.{storage, side_check, heights_check, storage_check, storage_answer}
use Rattle.rules.proofs.Laws.Checks.{then_pass}
use Rattle.storage.specs.Sampled.{Sampled, sampled_answer}
use Rattle.storage.proofs.Unrefused.{heights_unrefused, sampled_pond}

module _ {columns rows : ℕ} {heights : List ℤ} (s : Sampled columns rows heights) where
  pub sampled_check : (stage : ℤ) (side : ℕ) → storage_check columns rows heights stage side ≡ (side_check side then stage_check stage)
  unfolding storage_check
  sampled_check stage side =
      ap (λ c. c then stage_check stage then heights_check (columns * rows) heights) (sampled_pond s side)
      ∙ ap (λ c. side_check side then stage_check stage then c) (heights_unrefused s)
      ∙ ap (λ c. side_check side then c) (then_pass (stage_check stage))

  -- so that only the side and the stage can be
  pub sampled_answer_lem : (stage : ℤ) (side : ℕ) → storage_answer columns rows heights stage side ≡ sampled_answer columns rows heights stage side
  unfolding storage_answer
  sampled_answer_lem stage side = ap (λ c. answer c (storage columns rows heights stage side)) (sampled_check stage side)
