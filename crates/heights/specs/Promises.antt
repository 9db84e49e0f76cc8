-- What a height promises beyond its equation with the rules: accepted, it is in range, and within one micrometre of the exact surface; and of the negated
-- lattice it is the negative, or the same refusal.
use Rattle.std.specs.Prelude.{◌≡◌, ◌&&◌, List, ℕ, ◌*◌, ◌≤◌, leb, ℤ, pos, neg_ℤ, nat_abs, ◌-ℤ◌, ◌*ℤ◌, length, Result}
use Rattle.std.proofs.Common.{sym, ap, ◌∙◌, leb→le}
use Rattle.std.proofs.Math.Option.{none}
use Rattle.std.proofs.Math.Facts.{and_yes}
use Rattle.rules.specs.Grid.{limit, inside, controls, control}
use Rattle.rules.specs.Surface.{surface, height}
use Rattle.rules.specs.Answers.{require, short, position, accepted}
use Rattle.rules.specs.Calls.{cells_check, unit_check, lattice_check, height_check, height_answer}
use Rattle.rules.proofs.Laws.Checks.{required, then_both, then_rest, answer_none, answer_value}
use Rattle.rules.specs.Laws.Surface.{Inside, Bounded, full}
use Rattle.rules.proofs.Laws.Surface.{control_within, height_within, height_distance}
use Rattle.rules.proofs.Laws.Passed.{cells_passed, unit_positive, lattice_passed}
use Rattle.rules.specs.Laws.Negation.{negated, with_value}
use Rattle.rules.proofs.Laws.Negation.{height_call}
use Rattle.answers.specs.Told.{told}
use Rattle.answers.specs.declared.Refusal.{Refusal}

-- what the checks of a height leave: a position on the lattice, whose control values are in range
pub height_passed : (m n U : ℕ) (l : List ℤ) (x y : ℕ) → height_check m n U l x y ≡ none → Inside U m n x y × Bounded m n (control m l) limit
unfolding height_check inside
height_passed m n U l x y h =
    let a = then_both (cells_check 512 m n) _ h in
    let b = then_both (unit_check U) _ a.1 in
    let c = then_both (lattice_check m n l) _ (then_rest (require (leb (controls m n) (length l)) short) _ b.1) in
    let sides = cells_passed 512 m n a.0 in
    let at = and_yes (inside U m x) (inside U n y) (required (inside U m x && inside U n y) (position 0) c.1) in
    let on : Inside U m n x y = record { unit = unit_positive U b.0; across = sides.0; up = sides.2; x_inside = leb→le x (U * m) at.0; y_inside = leb→le y (U * n) at.1 } in
    (on, control_within m n l (lattice_passed m n l c.0))

-- ---- the promises

module _ (m n U : ℕ) (l : List ℤ) (x y : ℕ) (r : Result ℤ Refusal) (z : ℤ) (rules : told r ≡ height_answer m n U l x y) (is : told r ≡ accepted z) where
  passed : Inside U m n x y × Bounded m n (control m l) limit
  unfolding height_answer
  passed = height_passed m n U l x y (answer_none (height_check m n U l x y) (height U m n (control m l) x y) z (sym rules ∙ is))

  height_is : height U m n (control m l) x y ≡ z
  unfolding height_answer
  height_is = answer_value (height_check m n U l x y) (height U m n (control m l) x y) z (sym rules ∙ is)

  pub in_range : nat_abs z ≤ 4_000_000_000
  in_range = rw (← height_is) (height_within U m n x y passed.0 (control m l) limit passed.1)

  -- 2 |36U⁶ · z - surface| ≤ 2 · 36U⁶
  pub near_surface : nat_abs (pos 2 *ℤ (pos (full U) *ℤ z -ℤ surface U m n (control m l) x y)) ≤ 2 * full U
  near_surface = rw (← height_is) (height_distance U m n x y passed.0 (control m l))

pub negated_ground : (m n U : ℕ) (l : List ℤ) (x y : ℕ) (r r' : Result ℤ Refusal) → told r ≡ height_answer m n U l x y → told r' ≡ height_answer m n U (negated l) x y
    → told r' ≡ with_value neg_ℤ (told r)
negated_ground m n U l x y r r' rules rules' = rules' ∙ height_call m n l U x y ∙ ap (with_value neg_ℤ) (sym rules)
