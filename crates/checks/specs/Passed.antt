-- What the answers of the shared checks have shown, and how they are made.
use Rattle.std.specs.Prelude.{ℕ, ◌≤◌, ◌≡◌, List, leb, ℤ, length, Result, Ok, Err}
use Rattle.std.proofs.Common.{sym, ap, subst, ◌∙◌, arith, leb→le}
use Rattle.std.proofs.Math.Option.{none, some}
use Rattle.rules.specs.Grid.{controls}
use Rattle.rules.specs.Answers.{Check, require, short}
use Rattle.rules.specs.Calls.{lattice_check}
use Rattle.rules.specs.Laws.Checks.{AllInRange}
use Rattle.rules.proofs.Laws.Checks.{required, then_first, then_rest}
use Rattle.rules.proofs.Laws.Passed.{lattice_passed}
use Rattle.answers.specs.Cause.{cause, check}
use Rattle.answers.specs.declared.Refusal.{Refusal}
use Rattle.grid.specs.declared.Grid.{Grid}
use Rattle.checks.specs.Ready.{stored_check, Behind, Tells}

pub stored_passed : (m n : ℕ) (values : List ℤ) → stored_check m n values ≡ none → (controls m n ≤ length values) × AllInRange (controls m n) values
unfolding stored_check
stored_passed m n values e =
    let long = leb (controls m n) (length values) in
    let first = then_first (require long short) (lattice_check m n values) e in
    (leb→le (controls m n) (length values) (required long short first), lattice_passed m n values (then_rest (require long short) (lattice_check m n values) e))

-- ---- answers with a grid, or with a refusal

module _ {c : Check} {m n U : ℕ} {P : ℕ → Type 0} where
  pub grid_none : {r : Result Grid Refusal} {g : Grid} → Tells c m n U P r → r ≡ Ok g → c ≡ none
  grid_none t e = sym t.is ∙ ap check e

  pub grid_refused : {r : Result Grid Refusal} {v : Refusal} → Tells c m n U P r → r ≡ Err v → c ≡ some (cause v)
  grid_refused t e = sym t.is ∙ ap check e

  pub tells_grid : {g : Grid} → c ≡ none → Behind m n U P g → Tells c m n U P (Ok g)
  tells_grid {g = g} none_is b = record { is = sym none_is; behind = λ f i. let same : g ≡ f = cc in subst (Behind m n U P) same b }

  pub tells_refusal : {v : Refusal} → c ≡ some (cause v) → Tells c m n U P (Err v)
  tells_refusal {v = v} s = record { is = sym s; behind = λ g i. absurd (apart g i) }
    where
      apart : (g : Grid) → Err v ≡ Ok g → ⊥
      apart g i = let z : ◌≡◌ {A = ℕ} 0 1 = cc in omega arith
