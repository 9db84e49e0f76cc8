-- What a fit promises beyond its equation with the rules. Refused, its number and place say which figure left its range, of which point or level, and its
-- number what is left as it was. With q = 1 throughout, its answer and its slices are those of a fit without q. With every height negated, it leaves the
-- negated lattice and residuals, or is refused alike.
use Rattle.std.specs.Prelude.{◌≡◌, Result, cond, length}
use Rattle.std.proofs.Math.Path.{refl, ap}
use Rattle.std.proofs.Common.{sym, ◌∙◌}
use Rattle.std.proofs.Math.Option.{some}
use Rattle.rules.specs.Fit.{Shape, Survey, point_count, AllOne}
use Rattle.rules.specs.Answers.{Refusal, number, place, refused, Outcome, outcome}
use Rattle.rules.specs.Calls.{CellCounts, Lent, lent_check, cleared, fit_check, fit_end, fit_call}
use Rattle.rules.specs.Laws.Checks.{of_levels}
use Rattle.rules.proofs.Laws.Checks.{in_levels_lem}
use Rattle.rules.proofs.Laws.Passed.{fit_refused}
use Rattle.rules.specs.Laws.Refused.{WhichFigure}
use Rattle.rules.proofs.Laws.Refused as law
use Rattle.rules.specs.Laws.Confidence.{earlier_call}
use Rattle.rules.proofs.Laws.Confidence.{call_as_earlier}
use Rattle.rules.specs.Laws.Negation.{upside_down, Overturned}
use Rattle.rules.proofs.Laws.Negation.{negation}
use Rattle.answers.specs.Told.{told_as}
use Rattle.answers.specs.declared.Refusal as coded
use Rattle.grid.specs.Counts.{counts}
use Rattle.grid.specs.declared.Cells.{Cells}

module _ (a : Shape) (s : Survey) (lent after : Lent) (r : Result Cells coded.Refusal) (rules : outcome (told_as counts r) after ≡ fit_call a s lent) (f : Refusal) (is : told_as counts r ≡ refused f) where
  refuses : fit_check a s lent ≡ some f
  refuses = fit_refused a s lent f (sym (ap (λ (o : Outcome CellCounts Lent). o.answered) rules) ∙ is)

  pub which_figure : WhichFigure a s (number f) (place f)
  which_figure = law.which_figure a s lent f refuses

  -- after 7, 13 and 14 the scratch is zero, and lattice and residuals are as they were; after every other refusal, 15 and 17 among them, everything is
  pub left : after ≡ cond (of_levels (number f)) (cleared a (point_count s) lent) lent
  unfolding fit_call fit_end
  left = ap (λ (o : Outcome CellCounts Lent). o.slices) rules ∙ rw (refuses, in_levels_lem f) refl

-- "With q = 1 throughout, lattice and residuals equal the earlier ones to the bit", and so do the refusals
pub as_earlier : (a : Shape) (s : Survey) (lent after : Lent) (r : Result Cells coded.Refusal) → outcome (told_as counts r) after ≡ fit_call a s lent
    → length s.qs ≡ point_count s → AllOne s → outcome (told_as counts r) after ≡ earlier_call a s lent
as_earlier a s lent after r rules as_many one = rules ∙ call_as_earlier a s as_many one lent

-- "Negating every height of a point list must negate lattice and residuals, or give the same refusal with the same place": of two calls that both were lent
-- room, or both were not
pub negated_heights : (a : Shape) (s : Survey) (lent after lent' after' : Lent) (r r' : Result Cells coded.Refusal) → outcome (told_as counts r) after ≡ fit_call a s lent
    → outcome (told_as counts r') after' ≡ fit_call a (upside_down s) lent' → lent_check a (point_count s) lent' ≡ lent_check a (point_count s) lent
    → Overturned a (point_count s) (outcome (told_as counts r) after) (outcome (told_as counts r') after')
negated_heights a s lent after lent' after' r r' rules rules' room = rw (rules, rules') (negation a s lent lent' room)
