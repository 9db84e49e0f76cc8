-- The call of the fit whose finished lattice is out of range is refused for its first such sum.
use Rattle.std.specs.Prelude.{◌≡◌, refl}
use Rattle.std.proofs.Math.Option.{none}
use Rattle.rules.specs.Grid.{in_range, confident, within, inside, cells_at}
use Rattle.rules.specs.Fit.{columns, rows}
use Rattle.rules.specs.Fit.{difference_check}
use Rattle.rules.specs.Answers.{◌then◌, require, first_of, range_check, sum, refused, outcome}
use Rattle.rules.specs.Calls.{Lent, cells_check, h_check, lists_check, survey_check, spot_check, point_check, points_check, lent_check, cleared, fit_call}
use Rattle.computed_fits.specs.Accepted.{one}
use Rattle.computed_fits.specs.Refused.{crest, crest_figures, crest_levels, refused_call}

pub final_refused : (lent : Lent) → lent_check one 2 lent ≡ none → fit_call one crest lent ≡ outcome (refused (sum 0)) (cleared one 2 lent)
unfolding difference_check range_check survey_check cells_check h_check lists_check points_check point_check spot_check confident within inside in_range columns rows cells_at first_of require ◌then◌
final_refused lent room = refused_call one crest lent (sum 0) (rw (room, crest_levels.from_base) refl) crest_figures
