-- The call of the fit with a quotient at the end of its range is accepted.
use Rattle.std.specs.Prelude.{◌≡◌}
use Rattle.std.proofs.Math.Path.{refl}
use Rattle.std.proofs.Math.Option.{none}
use Rattle.algebra.specs.Table.{tabulate}
use Rattle.rules.specs.Rounding.{floor, near_up, near_down, even, near}
use Rattle.rules.specs.Grid.{in_range, confident, within, inside, cells_at}
use Rattle.rules.specs.Fit.{columns, rows, total, near_mean, base, shifted, differences}
use Rattle.rules.specs.Fit.{difference_check}
use Rattle.rules.specs.Answers.{◌then◌, require, first_of, range_check, accepted, outcome}
use Rattle.rules.specs.Calls.{Lent, cells_check, h_check, lists_check, survey_check, spot_check, point_check, points_check, lent_check, fit_check, results, cleared, fit_end, fit_call}
use Rattle.computed_fits.specs.Accepted.{one, brink, at_the_brink}

pub brink_accepted : (lent : Lent) → lent_check one 3 lent ≡ none
    → fit_call one brink lent ≡ outcome (accepted (record { m = 1; n = 1 })) (cleared one 3 (results one brink lent))
unfolding fit_call fit_end fit_check survey_check cells_check h_check lists_check points_check point_check spot_check confident difference_check differences shifted base near_mean total near near_up near_down even floor tabulate range_check within inside in_range columns rows cells_at first_of require ◌then◌
brink_accepted lent room = rw (room, at_the_brink.accepted_levels) refl
