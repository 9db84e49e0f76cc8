-- The scan of all control values is the check, and its offender is refused by its index.
use Rattle.std.proofs.Common.{◌≡◌, ℕ, List, sym, ap, ◌∙◌}
use Rattle.std.specs.Prelude.{Option, ℤ}
use Rattle.rules.specs.Grid.{controls}
use Rattle.rules.specs.Answers.{Refusal, range, range_check}
use Rattle.rules.specs.Calls.{lattice_check}
use Rattle.range.specs.Found.{found_check}
use Rattle.checks.proofs.lattice.Goals as goal

-- the scan's result r, known to be v, as the lattice's check
scanned : (m n count : ℕ) (values : List ℤ) (r v : Option ℕ) → ((f : ℕ → Refusal) → range_check count values f ≡ found_check f r)
    → count ≡ controls m n → r ≡ v → found_check range v ≡ lattice_check m n values
unfolding lattice_check
scanned m n count values r v scan all is = ap (found_check range) (sym is) ∙ sym (scan range) ∙ ap (λ k. range_check k values range) all

pub returns-in-Some : goal.returns-in-Some
returns-in-Some c = scanned _ _ _ _ _ _ c.first_out.ensures c.controls.ensures c.in-Some.is

pub returns-in-None : goal.returns-in-None
returns-in-None c = scanned _ _ _ _ _ _ c.first_out.ensures c.controls.ensures c.in-None.is
