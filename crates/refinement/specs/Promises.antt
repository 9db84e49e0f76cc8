-- What a refinement promises beyond its equations with the rules: "Refine never gives 7", nor 13 or 14; the values that an accepted one writes are in range;
-- and of the negated lattice it writes the negatives, or is refused alike.
use Rattle.std.specs.Prelude.{◌≡◌, false, List, ℕ, ◌*◌, leb, ℤ, pos, length, Result}
use Rattle.std.proofs.Math.Path.{sym, subst}
use Rattle.std.proofs.Common.{◌∙◌}
use Rattle.std.proofs.Math.Option.{none}
use Rattle.algebra.specs.Table.{over, get_d_over}
use Rattle.rules.specs.Grid.{limit, controls, control, store}
use Rattle.rules.specs.Refinement.{refined}
use Rattle.rules.specs.Answers.{Refusal, number, accepted, refused, outcome}
use Rattle.rules.specs.Calls.{CellCounts, refine_check, refine_call}
use Rattle.rules.specs.Laws.Checks.{AllInRange, of_levels}
use Rattle.rules.proofs.Laws.Checks.{then_rest, in_levels_lem}
use Rattle.rules.proofs.Laws.Checks.{call_unrefused, call_value, call_after, call_refusal}
use Rattle.rules.proofs.Laws.Passed.{lattice_passed}
use Rattle.rules.proofs.Laws.Refused.{refine_only}
use Rattle.rules.specs.Laws.Surface.{Bounded}
use Rattle.rules.proofs.Laws.Surface.{control_within, refined_within, length_store, store_within}
use Rattle.rules.specs.Laws.Negation.{negated, Mirrored}
use Rattle.rules.proofs.Laws.Negation.{refine_call_lem}
use Rattle.answers.specs.Told.{told_as}
use Rattle.answers.specs.declared.Refusal as code
use Rattle.grid.specs.Counts.{counts}
use Rattle.grid.specs.declared.Cells.{Cells}

-- what its checks leave: control values in range, old and new
new_values : (m n : ℕ) (l o : List ℤ) → refine_check m n l o ≡ none → Bounded (2 * m) (2 * n) (refined (control m l)) limit
unfolding refine_check
new_values m n l o e = refined_within m n (control m l) limit (control_within m n l (lattice_passed m n l (then_rest _ _ (then_rest _ _ e))))

-- ---- the promises

module _ (m n : ℕ) (lattice before after : List ℤ) (r : Result Cells code.Refusal) (rules : outcome (told_as counts r) after ≡ refine_call m n lattice before) where
  pub never_7_13_14 : (f : Refusal) → told_as counts r ≡ refused f → of_levels (number f) ≡ false
  unfolding refine_call
  never_7_13_14 f e = sym (in_levels_lem f) ∙ (refine_only m n lattice before).only f (call_refusal _ _ _ before (told_as counts r) after rules f e)

  module _ (c : CellCounts) (e : told_as counts r ≡ accepted c) where
    written : after ≡ over (store (2 * m) (2 * n) (refined (control m lattice))) before
    unfolding refine_call
    written = call_after (refine_check m n lattice before) _ _ before (told_as counts r) after rules c e

    new_range : AllInRange (controls (2 * m) (2 * n)) after
    unfolding refine_call
    new_range i h =
        let new = store (2 * m) (2 * n) (refined (control m lattice)) in
        let unrefused = call_unrefused (refine_check m n lattice before) _ _ before (told_as counts r) after rules c e in
        rw (written, get_d_over new before i (pos 0) (rw (length_store (2 * m) (2 * n) (refined (control m lattice))) h))
        (store_within (2 * m) (2 * n) (refined (control m lattice)) limit (new_values m n lattice before unrefused) i h)

    pub in_range : AllInRange (controls c.m c.n) after
    unfolding refine_call
    in_range =
        subst (λ (k : CellCounts). AllInRange (controls k.m k.n) after) (call_value (refine_check m n lattice before) _ _ before (told_as counts r) after rules c e) new_range

-- of two calls that both were lent room, or both were not
pub negated_ground : (m n : ℕ) (l before after before' after' : List ℤ) (r r' : Result Cells code.Refusal) → outcome (told_as counts r) after ≡ refine_call m n l before
    → outcome (told_as counts r') after' ≡ refine_call m n (negated l) before' → let count = controls (2 * m) (2 * n) in leb count (length before') ≡ leb count (length before)
    → Mirrored count (outcome (told_as counts r) after) (outcome (told_as counts r') after')
negated_ground m n l before after before' after' r r' rules rules' room = rw (rules, rules') (refine_call_lem m n l before before' room)
