-- What a stage for a wanted storage promises beyond its contract: it is the only lowest, what storages at it and below it answer, that 18 is given exactly where
-- no stage stores enough, and what can be refused of the heights of an accepted raster.
use Rattle.std.specs.Prelude.{◌≡◌, ◌⊎◌, List, ℕ, ◌*◌, ◌≤◌, ◌<◌, ℤ, pos, neg_ℤ, nat_abs, ◌<ℤ◌, Result}
use Rattle.std.proofs.Math.Path.{sym}
use Rattle.std.proofs.Common.{◌∙◌}
use Rattle.std.proofs.Math.Logic.{⊎_elim, inl, inr}
use Rattle.std.proofs.Math.Option.{none, some}
use Rattle.rules.specs.Grid.{limit, within}
use Rattle.rules.specs.Answers.{Refusal, side, no_stage, ◌then◌, accepted, refused}
use Rattle.rules.specs.Storage.{storage, side_check, pond_check, heights_check, storage_answer}
use Rattle.rules.specs.Stage.{LowestStage, enough, stage_for, reach_check, stage_for_check, stage_for_answer}
use Rattle.rules.proofs.Laws.Checks.{require_refusal, then_refusal, then_none, answer_value, answer_refused, some_answer}
use Rattle.rules.proofs.Laws.Stage as law
use Rattle.storage.specs.Promises as storages
use Rattle.storage.specs.Sampled.{Sampled}
use Rattle.storage.proofs.Unrefused.{heights_unrefused, sampled_pond}
use Rattle.answers.specs.Told.{told}
use Rattle.answers.specs.declared.Refusal as code

module _ (columns rows : ℕ) (heights : List ℤ) (wanted s : ℕ) (r : Result ℤ code.Refusal) (rules : told r ≡ stage_for_answer columns rows heights wanted s) where
  module _ (z : ℤ) (is : told r ≡ accepted z) where
    lowest : LowestStage columns rows heights wanted s z
    lowest = law.answer_lowest columns rows heights wanted s z (sym rules ∙ is)

    -- there is no other lowest
    pub only_lowest : (y : ℤ) → LowestStage columns rows heights wanted s y → y ≡ z
    only_lowest y l = law.lowest_unique columns rows heights wanted s y z l lowest

    -- a storage at this stage is at least the wanted litres, and one at a lower stage is less
    pub enough_there : (t : Result ℕ code.Refusal) → told t ≡ storage_answer columns rows heights z s → (v : ℕ) → told t ≡ accepted v → wanted ≤ v
    enough_there t call v e = rw (← storages.stored columns rows heights s z t call v e) lowest.stores

    pub less_below : (y : ℤ) → nat_abs y ≤ limit → y <ℤ z
        → (t : Result ℕ code.Refusal) → told t ≡ storage_answer columns rows heights y s → (v : ℕ) → told t ≡ accepted v → v < wanted
    less_below y size below t call v e = rw (← storages.stored columns rows heights s y t call v e) (lowest.no_lower y size below)

    -- "Wanted 0 gives -4,000,000,000"
    pub nothing_wanted : wanted ≡ 0 → z ≡ neg_ℤ (pos limit)
    unfolding stage_for_answer
    nothing_wanted e =
        sym (answer_value (stage_for_check columns rows heights wanted s) (stage_for columns rows heights wanted s) z (sym rules ∙ is))
        ∙ law.nothing_wanted columns rows heights wanted s e

  -- "None is reported precisely where even 4,000,000,000 stores less": then no stage in range stores enough
  pub none_enough : told r ≡ refused no_stage → (stage : ℤ) → nat_abs stage ≤ limit → storage columns rows heights stage s < wanted
  none_enough is = law.none_stores columns rows heights wanted s (law.none_reaches columns rows heights wanted s (sym rules ∙ is))

  -- and where it does, with the raster and the side in order, 18 is what is told
  pub none_told : pond_check columns rows heights s ≡ none → heights_check (columns * rows) heights ≡ none → storage columns rows heights (pos limit) s < wanted
      → told r ≡ refused no_stage
  unfolding stage_for_answer stage_for_check
  none_told ponded in_range less =
      rules
      ∙ sym
      (some_answer (stage_for columns rows heights wanted s)
      (then_none (pond_check columns rows heights s) _ ponded
      ∙ then_none (heights_check (columns * rows) heights) _ in_range
      ∙ law.reach_less columns rows heights wanted s less))

  -- of the heights of an accepted raster only the side or the wanted litres are refused
  pub side_or_none : Sampled columns rows heights → (x : Refusal) → told r ≡ refused x → (x ≡ side) ⊎ (x ≡ no_stage)
  unfolding stage_for_answer stage_for_check side_check reach_check
  side_or_none sampled x is =
      let c = answer_refused (stage_for_check columns rows heights wanted s) (stage_for columns rows heights wanted s) x (sym rules ∙ is) in
      ⊎_elim
      (λ e. inl (sym (require_refusal (within 1 100 s) side x (sym (sampled_pond sampled s) ∙ e)).1))
      (λ e. inr (sym (require_refusal (enough columns rows heights wanted s (pos limit)) no_stage x (behind_heights e.1)).1))
      (then_refusal (pond_check columns rows heights s) _ x c)
    where
      behind_heights : (heights_check (columns * rows) heights then reach_check columns rows heights wanted s) ≡ some x → reach_check columns rows heights wanted s ≡ some x
      behind_heights e = sym (then_none (heights_check (columns * rows) heights) _ (heights_unrefused sampled)) ∙ e
