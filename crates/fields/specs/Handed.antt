-- What a call hands out, from what it was told: its fields with the slices that it leaves, and cell counts or a stage where its number is that of an acceptance.
use Rattle.std.specs.Prelude.{◌≡◌, refl, ℤ}
use Rattle.std.proofs.Common.{sym, ap, ◌∙◌}
use Rattle.rules.specs.Answers.{Answer, accepted, refused, Outcome, outcome}
use Rattle.rules.specs.Calls.{CellCounts}
use Rattle.rules.proofs.Laws.Checks.{number_some}
use Rattle.fields.specs.Fields.{handed, in_fields, cells_fields, stage_fields}
use Rattle.fields.specs.declared.CellsAnswer.{CellsAnswer}
use Rattle.fields.specs.declared.StageAnswer.{StageAnswer}

pub call_handed : {A F S : Type 0} (fields : Answer A → F) {a : Answer A} {slices : S} {o : Outcome A S} {r : F}
    → r ≡ fields a → outcome a slices ≡ o → handed r slices ≡ in_fields fields o
call_handed fields {slices = slices} e call = ap (λ r. handed r slices) e ∙ ap (in_fields fields) call

pub cells_accepted : (a : Answer CellCounts) {r : CellsAnswer} → r ≡ cells_fields a → r.number ≡ 0 → a ≡ accepted (record { m = r.m; n = r.n })
cells_accepted (accepted c) e z = rw e refl
cells_accepted (refused r) e z = absurd (number_some r (sym (ap (λ (f : CellsAnswer). f.number) e) ∙ z))

pub stage_accepted : (a : Answer ℤ) {r : StageAnswer} → r ≡ stage_fields a → r.number ≡ 0 → a ≡ accepted r.stage
stage_accepted (accepted z) e n = rw e refl
stage_accepted (refused r) e n = absurd (number_some r (sym (ap (λ (f : StageAnswer). f.number) e) ∙ n))
