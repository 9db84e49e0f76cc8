-- What slopes promise beyond their equation with the rules: accepted, along each axis they are within 750/U + 1/2 nanometres of the exact slope, and 0 on
-- level ground; and of the negated lattice they are the negatives, or the same refusal.
use Rattle.std.specs.Prelude.{◌≡◌, List, ℕ, ◌+◌, ◌*◌, ◌<◌, ℤ, pos, get_or, Result}
use Rattle.std.proofs.Common.{sym, ap, subst, ◌∙◌}
use Rattle.rules.specs.Grid.{controls, control}
use Rattle.rules.specs.Slope.{exact_slope_x, slope_x, exact_slope_y, slope_y, SlopeClose}
use Rattle.rules.specs.Answers.{accepted}
use Rattle.rules.specs.Calls.{Slopes, height_check, slope_answer}
use Rattle.rules.proofs.Laws.Checks.{answer_none, answer_value}
use Rattle.rules.specs.Laws.Surface.{Same, Inside}
use Rattle.rules.proofs.Laws.Surface.{place_below}
use Rattle.rules.proofs.Laws.Slope.{slope_x_distance, slope_y_distance, level_slope_x, level_slope_y}
use Rattle.rules.specs.Laws.Negation.{negated, with_value, opposite_slopes}
use Rattle.rules.proofs.Laws.Negation.{slope_call}
use Rattle.heights.specs.Promises.{height_passed}
use Rattle.answers.specs.Told.{told_as}
use Rattle.answers.specs.declared.Refusal.{Refusal}
use Rattle.slopes.specs.Sloping.{slopes_of}
use Rattle.slopes.specs.declared.Slopes as code

module _ (m n U : ℕ) (l : List ℤ) (x y : ℕ) (r : Result code.Slopes Refusal) (s : Slopes) (rules : told_as slopes_of r ≡ slope_answer m n U l x y) (is : told_as slopes_of r ≡ accepted s) where
  abbrev both : Slopes
  both = record { along_x = slope_x U m n (control m l) x y; along_y = slope_y U m n (control m l) x y }

  on : Inside U m n x y
  unfolding slope_answer
  on = (height_passed m n U l x y (answer_none (height_check m n U l x y) both s (sym rules ∙ is))).0

  slopes_are : both ≡ s
  unfolding slope_answer
  slopes_are = answer_value (height_check m n U l x y) both s (sym rules ∙ is)

  -- 2 |12U⁶ · slope - 1,000 · sum| ≤ 12U⁶ + 18,000U⁵
  pub near_slope_x : SlopeClose U s.along_x (exact_slope_x U m n (control m l) x y)
  near_slope_x = let S = exact_slope_x U m n (control m l) x y in subst (λ v. SlopeClose U v S) (ap (λ (b : Slopes). b.along_x) slopes_are) (slope_x_distance U m n x y on (control m l))

  pub near_slope_y : SlopeClose U s.along_y (exact_slope_y U m n (control m l) x y)
  near_slope_y = let S = exact_slope_y U m n (control m l) x y in subst (λ v. SlopeClose U v S) (ap (λ (b : Slopes). b.along_y) slopes_are) (slope_y_distance U m n x y on (control m l))

  -- where every control value is the same
  module _ (c : ℤ) (same : (i : ℕ) → i < controls m n → get_or l i (pos 0) ≡ c) where
    grounded : Same m n (control m l) (λ s t. c)
    unfolding control
    grounded = record { same = λ s t h k. same (t * (m + 3) + s) (place_below m n s t h k) }

    pub level_ground : (s.along_x ≡ pos 0) × (s.along_y ≡ pos 0)
    level_ground = (
      sym (ap (λ (b : Slopes). b.along_x) slopes_are) ∙ level_slope_x U m n x y on (control m l) c grounded,
      sym (ap (λ (b : Slopes). b.along_y) slopes_are) ∙ level_slope_y U m n x y on (control m l) c grounded,
    )

pub negated_ground : (m n U : ℕ) (l : List ℤ) (x y : ℕ) (r r' : Result code.Slopes Refusal) → told_as slopes_of r ≡ slope_answer m n U l x y → told_as slopes_of r' ≡ slope_answer m n U (negated l) x y
    → told_as slopes_of r' ≡ with_value opposite_slopes (told_as slopes_of r)
negated_ground m n U l x y r r' rules rules' = rules' ∙ slope_call m n l U x y ∙ ap (with_value opposite_slopes) (sym rules)
