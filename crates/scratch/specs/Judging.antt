-- Steps one after another, each with the check that is due at it.
use Rattle.std.specs.Prelude.{◌≡◌, Bool, true, false, List, ℕ, T, ℤ}
use Rattle.std.proofs.Common.{sym, ap, subst, ◌∙◌, arith}
use Rattle.std.proofs.Math.Option.{none, some}
use Rattle.rules.specs.Answers.{Refusal, Check, ◌then◌}
use Rattle.rules.proofs.Laws.Checks.{then_none}
use Rattle.answers.specs.Cause.{ok_check}
use Rattle.scratch.specs.Scratch.{Judged}

refused_not : {r : Refusal} → some r ≡ none → ⊥
refused_not {r} e = let z : ◌≡◌ {A = ℕ} 0 1 = cc in omega arith

module _ {due : Check} {State : List ℤ → Type 0} {whole : List ℤ} where
  -- a step that is refused
  pub judged_refused : {r : Refusal} → due ≡ some r → Judged due State (some r) whole
  judged_refused e = record { is = sym e; leaves = λ n. absurd (refused_not n) }

  -- a step that answers by yes or no
  pub judged : {ok b : Bool} (r : Refusal) → due ≡ ok_check ok r → ok ≡ b → (T ok → due ≡ none → State whole) → Judged due State (ok_check b r) whole
  judged {ok} {b} r e s state =
      let found : due ≡ ok_check b r = e ∙ ap (λ b. ok_check b r) s in
      record { is = sym found; leaves = λ n. state (subst T (sym s) (sure b n)) (found ∙ n) }
    where
      sure : (b : Bool) → ok_check b r ≡ none → T b
      sure true n = tt
      sure false n = refused_not n

-- a step and the next one
module _ {due : Check} {State After : List ℤ → Type 0} {found : Check} {whole now : List ℤ} (first : Judged due State found whole) where
  pub first_refused : (next : Check) {r : Refusal} → found ≡ some r → Judged (due then next) After (some r) now
  unfolding ◌then◌
  first_refused next e = judged_refused (rw (← first.is, e))

  pub then_judged : {next last : Check} → found ≡ none → Judged next After last now → Judged (due then next) After last now
  then_judged {next} e j = record { is = j.is ∙ sym (then_none due next (sym first.is ∙ e)); leaves = j.leaves }
