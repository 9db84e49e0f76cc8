-- Fits that are refused for their points, computed on the definitions: for a confidence, a difference, a quotient, a residual, a sum of a level and a final
-- sum.
use Rattle.std.specs.Prelude.{◌≡◌, refl, List, [], ◌∷◌, ℕ, ◌+◌, ◌/◌, ◌%◌, ℤ, pos, neg_ℤ}
use Rattle.std.proofs.Common.{ap, ◌∙◌}
use Rattle.std.proofs.Math.Option.{none, some}
use Rattle.std.specs.Float.Ieee.{lt, of_bits, add, mul, div, of_int}
use Rattle.algebra.specs.Table.{tabulate}
use Rattle.rules.specs.Rounding.{floor, near_up, near_down, even, near}
use Rattle.rules.specs.Grid.{in_range, confident, within, inside, cells_at, unit_at, controls, control, store}
use Rattle.rules.specs.Surface.{square, cube, numerator, denominator, cell, offset, weighted, along, height}
use Rattle.rules.specs.Level.{basis, weight, add_squares, squares, no_sums, grown, uses, touched, gathered, coefficient, signed, near_float, kept, settled, fitted_at}
use Rattle.rules.specs.Refinement.{masked, finer, finer2, refined}
use Rattle.rules.specs.Fit.{Shape, shape, columns, rows, unit_of, Survey, survey, point_count, points_of, valued, total, near_mean, base, shifted, differences}
use Rattle.rules.specs.Fit.{level_value, or_zero, level_of, level_height, lowered, raised, residuals, level, running, single_lattice}
use Rattle.rules.specs.Fit.{present, quotient_check, residual_check, sum_check, level_check, levels_check, difference_check, final_check, in_levels_check}
use Rattle.rules.specs.Answers.{Refusal, Check, require, ◌then◌, first_of, range_check, range, confidence, difference, quotient, residual, sum, refused, outcome}
use Rattle.rules.specs.Calls.{Lent, cells_check, h_check, lists_check, survey_check, spot_check, point_check, points_check, lent_check, fit_check, cleared, fit_end, fit_call}
use Rattle.rules.proofs.Laws.Checks.{then_none, then_some}
use Rattle.rules.proofs.Laws.Fit.{first_sums}
use Rattle.rules.proofs.Laws.Refused.{early_check, grouped, in_levels_only}
use Rattle.computed_fits.specs.Accepted.{ones, one}

-- ---- a difference: "15 with the point's index and every slice left"

-- three shots at one place, the first 8,000 metres above the others: their base is -1,333.333333 metres
abbrev pub far : Survey
far = survey (8 ∷ 8 ∷ 8 ∷ []) (8 ∷ 8 ∷ 8 ∷ []) (pos 4_000_000_000 ∷ neg_ℤ (pos 4_000_000_000) ∷ neg_ℤ (pos 4_000_000_000) ∷ []) (ones 3)

pub difference_refused : (lent : Lent) → lent_check one 3 lent ≡ none → fit_call one far lent ≡ outcome (refused (difference 0)) lent
unfolding fit_call fit_end fit_check survey_check cells_check h_check lists_check points_check point_check spot_check confident difference_check differences shifted base near_mean total near near_up near_down even floor tabulate range_check within inside in_range columns rows cells_at first_of require ◌then◌
difference_refused lent room = rw room refl

-- every height is asked before any difference: the last one here is out of range, and the first is too far from the base as well
abbrev pub past_range : Survey
past_range = survey (8 ∷ 8 ∷ 8 ∷ []) (8 ∷ 8 ∷ 8 ∷ []) (pos 4_000_000_000 ∷ neg_ℤ (pos 4_000_000_000) ∷ neg_ℤ (pos 4_000_000_001) ∷ []) (ones 3)

pub range_refused : (lent : Lent) → lent_check one 3 lent ≡ none → fit_call one past_range lent ≡ outcome (refused (range 2)) lent
unfolding fit_call fit_end fit_check survey_check cells_check h_check lists_check points_check point_check spot_check confident within inside in_range columns rows cells_at first_of require ◌then◌
range_refused lent room = rw room refl

-- ---- a confidence: "17 with the point's index for q = 0 in a lent list, after 6 in each point"

-- and before any difference: the first point here is too far from the base
pub confidence_refused : (lent : Lent) → lent_check one 3 lent ≡ none
    → fit_call one (record { xs = far.xs; ys = far.ys; zs = far.zs; qs = 255 ∷ 1 ∷ 0 ∷ [] }) lent ≡ outcome (refused (confidence 2)) lent
unfolding fit_call fit_end fit_check survey_check cells_check h_check lists_check points_check point_check spot_check confident within inside in_range columns rows cells_at first_of require ◌then◌
confidence_refused lent room = rw room refl

-- a height out of range comes before its point's confidence
pub range_before_confidence : (lent : Lent) → lent_check one 3 lent ≡ none
    → fit_call one (record { xs = far.xs; ys = far.ys; zs = past_range.zs; qs = 255 ∷ 1 ∷ 0 ∷ [] }) lent ≡ outcome (refused (range 2)) lent
unfolding fit_call fit_end fit_check survey_check cells_check h_check lists_check points_check point_check spot_check confident within inside in_range columns rows cells_at first_of require ◌then◌
range_before_confidence lent room = rw room refl

-- ---- in the levels

-- a call whose survey passes every check before the levels, and is refused in them
pub refused_call : (a : Shape) (s : Survey) (lent : Lent) (r : Refusal) → early_check a s lent ≡ none → in_levels_check a s ≡ some r
    → fit_call a s lent ≡ outcome (refused r) (cleared a (point_count s) lent)
unfolding fit_call fit_end ◌then◌
refused_call a s lent r early e = rw (grouped a s lent, early, e, (in_levels_only a s).only r e) refl

-- its levels refuse the differences d
levels_refuse : (a : Shape) (s : Survey) (d : List ℤ) {r : Refusal} → differences s.zs ≡ d → levels_check a (valued s d) ≡ some r → in_levels_check a s ≡ some r
unfolding in_levels_check
levels_refuse a s d is e = then_some _ _ (ap (λ d. levels_check a (valued s d)) is ∙ e)

-- ---- a quotient

-- a height and a depth at two corners: 2,500 metres from their base, and pulled 16/9 times as far
abbrev pub corners : Survey
corners = survey (0 ∷ 16 ∷ []) (0 ∷ 16 ∷ []) (pos 3_000_000_000 ∷ neg_ℤ (pos 2_000_000_000) ∷ []) (ones 2)

record Corners : Type 0 where
  from_base : differences corners.zs ≡ pos 2_500_000_000 ∷ neg_ℤ (pos 2_500_000_000) ∷ []
  too_steep : levels_check one (valued corners (pos 2_500_000_000 ∷ neg_ℤ (pos 2_500_000_000) ∷ [])) ≡ some (quotient 0)

corner_levels : Corners
unfolding differences shifted base near_mean total levels_check level_check quotient_check level_value fitted_at gathered touched uses weight basis squares add_squares grown no_sums coefficient settled kept near_float signed near near_up near_down even floor residuals controls columns rows unit_of cells_at unit_at tabulate points_of cell offset numerator denominator square cube in_range present require ◌then◌ first_of lt of_bits add mul div of_int
corner_levels = record { from_base = refl; too_steep = refl }

pub quotient_refused : (lent : Lent) → lent_check one 2 lent ≡ none → fit_call one corners lent ≡ outcome (refused (quotient 0)) (cleared one 2 lent)
unfolding difference_check range_check survey_check cells_check h_check lists_check points_check point_check spot_check confident within inside in_range columns rows cells_at first_of require ◌then◌
quotient_refused lent room =
    refused_call one corners lent (quotient 0) (rw (room, corner_levels.from_base) refl) (levels_refuse one corners _ corner_levels.from_base corner_levels.too_steep)

-- ---- a residual

-- a depth between two heights, 4,000 metres below their base, where the heights hold the surface above it
abbrev pub pit : Survey
pit = survey (0 ∷ 4 ∷ 8 ∷ []) (0 ∷ 4 ∷ 8 ∷ []) (pos 3_000_000_000 ∷ neg_ℤ (pos 3_000_000_000) ∷ pos 3_000_000_000 ∷ []) (ones 3)

abbrev pit_differences : List ℤ
pit_differences = pos 2_000_000_000 ∷ neg_ℤ (pos 4_000_000_000) ∷ pos 2_000_000_000 ∷ []

record Pit : Type 0 where
  from_base : differences pit.zs ≡ pit_differences
  too_deep : levels_check one (valued pit pit_differences) ≡ some (residual 0)

pit_levels : Pit
unfolding differences shifted base near_mean total levels_check level_check quotient_check residual_check range_check lowered level_height height along weighted control level level_of level_value fitted_at gathered touched uses weight basis squares add_squares grown no_sums coefficient settled kept near_float signed near near_up near_down even floor or_zero residuals store controls columns rows unit_of cells_at unit_at tabulate points_of cell offset numerator denominator square cube in_range present require ◌then◌ first_of lt of_bits add mul div of_int
pit_levels = record { from_base = refl; too_deep = refl }

pub residual_refused : (lent : Lent) → lent_check one 3 lent ≡ none → fit_call one pit lent ≡ outcome (refused (residual 0)) (cleared one 3 lent)
unfolding difference_check range_check survey_check cells_check h_check lists_check points_check point_check spot_check confident within inside in_range columns rows cells_at first_of require ◌then◌
residual_refused lent room =
    refused_call one pit lent (residual 0) (rw (room, pit_levels.from_base) refl) (levels_refuse one pit _ pit_levels.from_base pit_levels.too_deep)

-- ---- a sum of a level

-- one coarsest cell, two levels
abbrev pub two : Shape
two = shape 1 1 1

-- the check of the quotients of level k, fitted to known residuals
quotients_of : ℕ → Survey → Check
quotients_of k s =
    let w = columns two k + 3 in
    first_of (controls (columns two k) (rows two k)) (λ q. require (present (level_value two k s (q % w) (q / w))) (quotient k))

-- level 0 is in range and leaves the residuals r; in level 1 the quotients and the residuals are in range, and a sum is not
record Computed (s : Survey) (r : List ℤ) : Type 0 where
  quotients_0 : quotients_of 0 s ≡ none
  left : lowered two 0 (level_of two 0 s) s ≡ r
  residuals_0 : range_check (point_count s) r (λ i. residual 0) ≡ none
  quotients_1 : quotients_of 1 (valued s r) ≡ none
  residuals_1 : range_check (point_count s) (lowered two 1 (level_of two 1 (valued s r)) (valued s r)) (λ i. residual 1) ≡ none
  sums_1 : range_check (controls (columns two 1) (rows two 1)) (raised two 0 (level_of two 0 s) (level_of two 1 (valued s r))) (λ q. sum 1) ≡ some (sum 1)

module _ (s : Survey) (r : List ℤ) (c : Computed s r) where
  left_0 : residuals two s 1 ≡ r
  unfolding residuals
  left_0 = c.left

  level_0 : level_check two s 0 ≡ none
  unfolding level_check quotient_check residual_check quotients_of residuals
  level_0 = then_none _ _ c.quotients_0 ∙ then_none _ _ (rw left_0 c.residuals_0) ∙ first_sums two s

  level_1 : level_check two s 1 ≡ some (sum 1)
  unfolding level_check quotient_check residual_check sum_check quotients_of residuals running level
  level_1 = then_none _ _ (rw left_0 c.quotients_1) ∙ then_none _ _ (rw left_0 c.residuals_1) ∙ rw left_0 c.sums_1

  sum_out : levels_check two s ≡ some (sum 1)
  unfolding levels_check first_of ◌then◌
  sum_out = then_none _ _ level_0 ∙ level_1

-- a height and a depth, which the finer level tells apart: a sum of it is 14 metres below the range, and is refused though their base of 100 metres would
-- bring it back
abbrev pub steep : Survey
steep = survey (16 ∷ 0 ∷ []) (16 ∷ 0 ∷ []) (pos 2_600_000_000 ∷ neg_ℤ (pos 2_400_000_000) ∷ []) (ones 2)

steep_differences : differences steep.zs ≡ pos 2_500_000_000 ∷ neg_ℤ (pos 2_500_000_000) ∷ []
unfolding differences shifted base near_mean total near near_up near_down even floor tabulate
steep_differences = refl

steep_levels : Computed (valued steep (pos 2_500_000_000 ∷ neg_ℤ (pos 2_500_000_000) ∷ [])) (pos 1_671_436_126 ∷ neg_ℤ (pos 1_444_907_464) ∷ [])
unfolding quotients_of masked finer finer2 refined raised lowered level_height height along weighted control level_of level_value fitted_at gathered touched uses weight basis squares add_squares grown no_sums coefficient settled kept near_float signed near near_up near_down even floor or_zero store controls columns rows unit_of cells_at unit_at tabulate points_of cell offset numerator denominator square cube in_range range_check present require ◌then◌ first_of lt of_bits add mul div of_int
steep_levels = record { quotients_0 = refl; left = refl; residuals_0 = refl; quotients_1 = refl; residuals_1 = refl; sums_1 = refl }

-- with the base all sums would be in range
with_base : range_check (controls (columns two 1) (rows two 1))
    (shifted (pos 100_000_000)
    (raised two 0 (level_of two 0 (valued steep (pos 2_500_000_000 ∷ neg_ℤ (pos 2_500_000_000) ∷ [])))
    (level_of two 1 (valued steep (pos 1_671_436_126 ∷ neg_ℤ (pos 1_444_907_464) ∷ [])))))
    (λ q. sum 1)
    ≡ none
unfolding shifted masked finer finer2 refined raised control level_of level_value fitted_at gathered touched uses weight basis squares add_squares grown no_sums coefficient settled kept near_float signed near near_up near_down even floor or_zero store controls columns rows unit_of cells_at unit_at tabulate points_of cell offset numerator denominator square cube in_range range_check require ◌then◌ first_of lt of_bits add mul div of_int
with_base = refl

pub sum_refused : (lent : Lent) → lent_check two 2 lent ≡ none → fit_call two steep lent ≡ outcome (refused (sum 1)) (cleared two 2 lent)
unfolding difference_check range_check survey_check cells_check h_check lists_check points_check point_check spot_check confident within inside in_range columns rows cells_at first_of require ◌then◌
sum_refused lent room =
    refused_call two steep lent (sum 1) (rw (room, steep_differences) refl) (levels_refuse two steep _ steep_differences (sum_out _ _ steep_levels))

-- ---- a final sum, in level 0

-- two corners, 1,000 metres above and below their base of 3,000
abbrev pub crest : Survey
crest = survey (0 ∷ 16 ∷ []) (0 ∷ 16 ∷ []) (pos 4_000_000_000 ∷ pos 2_000_000_000 ∷ []) (ones 2)

abbrev crest_differences : List ℤ
crest_differences = pos 1_000_000_000 ∷ neg_ℤ (pos 1_000_000_000) ∷ []

pub record Crest : Type 0 where
  pub from_base : differences crest.zs ≡ crest_differences
  pub levels_fine : levels_check one (valued crest crest_differences) ≡ none
  pub base_is : base crest.zs ≡ pos 3_000_000_000
  pub too_high : range_check 16 (shifted (pos 3_000_000_000) (running one (valued crest crest_differences) 0)) (λ q. sum 0) ≡ some (sum 0)

pub crest_levels : Crest
unfolding differences shifted base near_mean total running levels_check level_check quotient_check residual_check sum_check range_check lowered level_height height along weighted control level level_of level_value fitted_at gathered touched uses weight basis squares add_squares grown no_sums coefficient settled kept near_float signed near near_up near_down even floor or_zero residuals store controls columns rows unit_of cells_at unit_at tabulate points_of cell offset numerator denominator square cube in_range present require ◌then◌ first_of lt of_bits add mul div of_int
crest_levels = record { from_base = refl; levels_fine = refl; base_is = refl; too_high = refl }

pub crest_figures : in_levels_check one crest ≡ some (sum 0)
unfolding in_levels_check final_check single_lattice columns rows cells_at controls
crest_figures = rw (crest_levels.from_base, crest_levels.base_is) (then_none _ _ crest_levels.levels_fine ∙ crest_levels.too_high)
