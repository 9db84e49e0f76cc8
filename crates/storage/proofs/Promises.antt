-- What a storage promises of an accepted raster: its heights are never refused.
use Rattle.std.specs.Prelude.{◌≡◌, ℕ, ◌⊎◌, List, ℤ, Result}
use Rattle.std.proofs.Common.{sym, ap, ◌∙◌, arith}
use Rattle.std.proofs.Math.Logic.{⊎_elim, inl, inr}
use Rattle.rules.specs.Grid.{within, in_range}
use Rattle.rules.specs.Answers.{Refusal, side, range, number, place, refused}
use Rattle.rules.specs.Calls.{stage_check}
use Rattle.rules.specs.Storage.{storage, side_check, storage_answer}
use Rattle.rules.proofs.Laws.Checks.{require_refusal, then_refusal, answer_refused}
use Rattle.answers.specs.Told.{told}
use Rattle.answers.specs.declared.Refusal as code
use Rattle.storage.specs.Sampled.{Sampled}
use Rattle.storage.proofs.Sampled.{sampled_answer_lem}

-- a call at this stage
module _ (columns rows : ℕ) (heights : List ℤ) (s : ℕ) (stage : ℤ) (r : Result ℕ code.Refusal) (rules : told r ≡ storage_answer columns rows heights stage s) where
  -- of the heights of an accepted raster
  module _ (sampled : Sampled columns rows heights) (x : Refusal) (is : told r ≡ refused x) where
    refusals : (x ≡ side) ⊎ (x ≡ range 0)
    unfolding side_check stage_check
    refusals =
        ⊎_elim
        (λ e. inl (sym (require_refusal (within 1 100 s) side x e).1))
        (λ e. inr (sym (require_refusal (in_range stage) (range 0) x e.1).1))
        (then_refusal (side_check s) (stage_check stage) x (answer_refused _ (storage columns rows heights stage s) x (sym (rules ∙ sampled_answer_lem sampled stage s) ∙ is)))

    -- only the side or the stage is refused
    pub side_or_stage : (x ≡ side) ⊎ (x ≡ range 0)
    side_or_stage = refusals

    -- so 6 is never a height's
    pub six_is_stage : number x ≡ 6 → place x ≡ 0
    six_is_stage six = ⊎_elim (λ e. absurd (other (sym (ap number e) ∙ six))) (λ e. ap place e) refusals
      where
        other : number side ≡ 6 → ⊥
        other e = omega arith
