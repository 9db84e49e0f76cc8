-- The fits that documents 01 and 02 name as accepted: a lone point, whose ground is level at its height throughout; no points, all zero; and between them
-- document 01's rows of a point of 9, as a hill beside a hollow; two points that disagree, each by its confidence; and a quotient of exactly 4,000,000,000.5.
-- Levels are computed in f64. So there are fits that the rules accept.
use Rattle.std.specs.Prelude.{◌≡◌, false, List, [], ◌∷◌, ℤ, negsuc, neg_ℤ, nat_abs, ◌-ℤ◌, length, get_or, replicate}
use Rattle.std.proofs.Math.Path.{refl, ap, ap₂}
use Rattle.std.proofs.Common.{◌∙◌, add-one, arith}
use Rattle.std.proofs.Math.Option.{none}
use Prim.Native.Nat.{ℕ, zero, suc, ◌+◌, ◌-◌, ◌*◌, ◌/◌, ◌%◌, ◌≤◌, ◌<◌, zero-le}
use Rattle.std.proofs.Math.Decide.{dec_lt}
use Rattle.std.proofs.Math.IntN.{pos, ◌+ℤ◌, +ℤ_idl, +ℤ_invr}
use Rattle.std.specs.Float.{fin}
use Rattle.std.specs.Float.Ieee.{lt, of_bits, add, mul, div, of_int}
use Rattle.std.proofs.Math.ListN.{get_or-replicate, get_or-eq_default}
use Rattle.std.proofs.lemmas.List.{length-replicate}
use Rattle.algebra.specs.Solver.{var, con, ◌⊞◌, ◌⊠◌, solve}
use Rattle.algebra.specs.Table.{tabulate, over, tabulate_same, tabulate_replicate}
use Rattle.rules.specs.Rounding.{floor, near_up, near_down, even, near}
use Rattle.rules.specs.Grid.{limit, in_range, confident, within, inside, cells_at, unit_at, controls, control, store}
use Rattle.rules.specs.Surface.{square, cube, numerator, denominator, cell, offset, weighted, along, height}
use Rattle.rules.specs.Level.{basis, weight, add_squares, squares, no_sums, grown, uses, touched, gathered, fitted, coefficient, signed, near_float, kept, settled, fitted_at}
use Rattle.rules.specs.Refinement.{masked, finer, finer2, refined}
use Rattle.rules.specs.Fit.{Shape, shape, columns, rows, unit_of, Survey, survey, point_count, points_of, total, near_mean, base, shifted, differences, from_base}
use Rattle.rules.specs.Fit.{level_value, or_zero, level_of, level_height, lowered, raised, residuals, level, running, single_lattice, last_residuals}
use Rattle.rules.specs.Fit.{present, quotient_check, residual_check, sum_check, level_check, levels_check, difference_check, final_check, in_levels_check}
use Rattle.rules.specs.Answers.{require, ◌then◌, first_of, range_check, range, accepted, outcome}
use Rattle.rules.proofs.Laws.Rounding.{near_exact}
use Rattle.rules.proofs.Laws.Checks.{require_met, size_in_range, then_none, first_of_all, size_range_check}
use Rattle.rules.proofs.Laws.Base.{no_base}
use Rattle.rules.specs.Laws.Passed.{Surveyed}
use Rattle.rules.proofs.Laws.Passed.{surveyed_passes}
use Rattle.rules.specs.Calls.{Lent, K, cells_check, h_check, lists_check, survey_check, spot_check, point_check, points_check, lent_check, fit_check, finest, results, cleared, fit_end, fit_call}

-- n control values of 0
abbrev zeros : ℕ → List ℤ
zeros n = replicate n (pos 0)

-- with b added they are all b
shifted_zeros : (n : ℕ) (b : ℤ) → shifted b (zeros n) ≡ replicate n b
unfolding shifted
shifted_zeros n b =
    rw (length-replicate n (pos 0))
    (tabulate_same n _ (λ q. b) (λ q l. ap (λ v. v +ℤ b) (get_or-replicate n q (pos 0) (pos 0) l) ∙ +ℤ_idl b) ∙ tabulate_replicate n b)

-- n points of confidence 1, as all were before document 02's job 8
abbrev pub ones : ℕ → List ℕ
ones n = replicate n 1

-- ---- the lone point

-- one coarsest cell, one level
abbrev pub one : Shape
one = shape 1 1 0

-- the lone point (0, 0, z)
abbrev pub lone : ℤ → Survey
lone z = survey (0 ∷ []) (0 ∷ []) (z ∷ []) (ones 1)

-- what is left of it above its base, in f64: nothing
record Level0 : Type 0 where
  lattice : running one (lone (pos 0)) 0 ≡ zeros 16
  residual : residuals one (lone (pos 0)) 1 ≡ pos 0 ∷ []
  fine : levels_check one (lone (pos 0)) ≡ none

level_0 : Level0
unfolding running levels_check level_check quotient_check residual_check sum_check range_check lowered level_height height along weighted control level level_of level_value fitted_at gathered touched uses weight basis squares add_squares grown no_sums coefficient settled kept near_float signed near near_up near_down even floor or_zero residuals store controls columns rows unit_of cells_at unit_at tabulate points_of cell offset numerator denominator square cube in_range present require ◌then◌ first_of lt of_bits add mul div of_int
level_0 = record { lattice = refl; residual = refl; fine = refl }

module _ (z : ℤ) where
  lone_base : base (z ∷ []) ≡ z
  unfolding base near_mean total
  lone_base = ap (λ v. near v 1) (solve (con (pos 0) ⊞ var 0) (con (pos 1) ⊠ var 0) (z ∷ []) tt) ∙ near_exact z 1 (omega arith)

  lone_difference : differences (z ∷ []) ≡ pos 0 ∷ []
  unfolding differences shifted tabulate
  lone_difference = ap (λ d. d ∷ []) (ap (λ b. z -ℤ b) lone_base ∙ +ℤ_invr z)

  lone_lattice : single_lattice one (lone z) ≡ replicate 16 z
  unfolding single_lattice
  lone_lattice = ap₂ shifted lone_base (ap (λ d. running one (survey (0 ∷ []) (0 ∷ []) d (ones 1)) 0) lone_difference ∙ level_0.lattice) ∙ shifted_zeros 16 z

  lone_residual : last_residuals one (lone z) ≡ pos 0 ∷ []
  unfolding last_residuals
  lone_residual = ap (λ d. residuals one (survey (0 ∷ []) (0 ∷ []) d (ones 1)) 1) lone_difference ∙ level_0.residual

  module _ (size : nat_abs z ≤ limit) where
    points_fine : points_check 16 1 1 (lone z) ≡ none
    unfolding points_check point_check spot_check inside confident within first_of require ◌then◌
    points_fine = then_none _ _ (require_met (in_range z) (range 0) (size_in_range z size))

    difference_fine : difference_check (z ∷ []) ≡ none
    unfolding difference_check range_check first_of require ◌then◌ in_range
    difference_fine = rw lone_difference refl

    figures_fine : in_levels_check one (lone z) ≡ none
    unfolding in_levels_check final_check columns rows cells_at controls
    figures_fine =
        then_none _ _ (ap (λ d. levels_check one (survey (0 ∷ []) (0 ∷ []) d (ones 1))) lone_difference ∙ level_0.fine)
        ∙ size_range_check 16 _ _ (λ q l. rw (lone_lattice, get_or-replicate 16 q z (pos 0) l) size)

    -- "The lone point (0,0,9) now gives 9 throughout, and the lone point at 2,300,000,000 is accepted", and so is any height in range, whatever slices are
    -- lent that are long enough
    pub lone_point : (lent : Lent) → lent_check one 1 lent ≡ none
        → fit_call one (lone z) lent
        ≡ outcome (accepted (record { m = 1; n = 1 }))
        (cleared one 1 (record { lattice = over (replicate 16 z) lent.lattice; residual = over (pos 0 ∷ []) lent.residual; whole = lent.whole; floats = lent.floats }))
    unfolding fit_call fit_end fit_check survey_check cells_check h_check lists_check within columns rows cells_at require ◌then◌ results
    lone_point lent room = rw (room, points_fine, difference_fine, figures_fine, lone_lattice, lone_residual) refl

-- ---- two points

-- document 01's point (0, 0, 9) as a hill, and a hollow as deep at the far end of three cells, about a base of 100
abbrev pub hill : Shape
hill = shape 3 1 0

abbrev pub hollow : Survey
hollow = survey (0 ∷ 48 ∷ []) (0 ∷ 0 ∷ []) (pos 109 ∷ pos 91 ∷ []) (ones 2)

-- "rows 1 4 1 0, 4 16 4 0, 1 4 1 0, 0 0 0 0", and the same below 0
abbrev row : ℕ → ℕ → List ℤ → List ℤ
row a b next = pos (100 + a) ∷ pos (100 + b) ∷ pos (100 + a) ∷ pos (100 - a) ∷ pos (100 - b) ∷ pos (100 - a) ∷ next

pub record Hill : Type 0 where
  pub lattice : single_lattice hill hollow ≡ row 1 4 (row 4 16 (row 1 4 (row 0 0 [])))
  pub residual : last_residuals hill hollow ≡ pos 0 ∷ pos 0 ∷ []
  pub accepted_levels : in_levels_check hill hollow ≡ none

pub hill_and_hollow : Hill
unfolding single_lattice last_residuals in_levels_check final_check shifted differences base near_mean total running levels_check level_check quotient_check residual_check sum_check range_check lowered level_height height along weighted control level level_of level_value fitted_at gathered touched uses weight basis squares add_squares grown no_sums coefficient settled kept near_float signed near near_up near_down even floor or_zero residuals store controls columns rows unit_of cells_at unit_at tabulate points_of cell offset numerator denominator square cube in_range present require ◌then◌ first_of lt of_bits add mul div of_int
hill_and_hollow = record { lattice = refl; residual = refl; accepted_levels = refl }

-- so its fit is accepted, whatever slices are lent that are long enough
pub hill_accepted : (lent : Lent) → lent_check hill 2 lent ≡ none
    → fit_call hill hollow lent ≡ outcome (accepted (record { m = 3; n = 1 })) (cleared hill 2 (results hill hollow lent))
unfolding fit_call fit_end fit_check survey_check cells_check h_check lists_check points_check point_check spot_check confident difference_check differences shifted base near_mean total near near_up near_down even floor tabulate range_check within inside in_range columns rows cells_at first_of require ◌then◌
hill_accepted lent room = rw (room, hill_and_hollow.accepted_levels) refl

-- ---- two points that disagree

-- 0 and 4,000 at one place, about a base of 2,000, the second of three times the first one's confidence: the ground there is 3,000
abbrev pub disputed : Survey
disputed = survey (0 ∷ 0 ∷ []) (0 ∷ 0 ∷ []) (pos 0 ∷ pos 4_000 ∷ []) (1 ∷ 3 ∷ [])

abbrev raised_row : ℕ → ℕ → List ℤ → List ℤ
raised_row a b next = pos (2_000 + a) ∷ pos (2_000 + b) ∷ pos (2_000 + a) ∷ pos 2_000 ∷ next

pub record Settled : Type 0 where
  pub lattice : single_lattice one disputed ≡ raised_row 111 444 (raised_row 444 1_778 (raised_row 111 444 (raised_row 0 0 [])))
  pub residual : last_residuals one disputed ≡ neg_ℤ (pos 3_000) ∷ pos 1_000 ∷ []
  pub accepted_levels : in_levels_check one disputed ≡ none

pub settled_by_confidence : Settled
unfolding single_lattice last_residuals in_levels_check final_check shifted differences base near_mean total running levels_check level_check quotient_check residual_check sum_check range_check lowered level_height height along weighted control level level_of level_value fitted_at gathered touched uses weight basis squares add_squares grown no_sums coefficient settled kept near_float signed near near_up near_down even floor or_zero residuals store controls columns rows unit_of cells_at unit_at tabulate points_of cell offset numerator denominator square cube in_range present require ◌then◌ first_of lt of_bits add mul div of_int
settled_by_confidence = record { lattice = refl; residual = refl; accepted_levels = refl }

-- ---- a quotient at the end of its range

-- three points at one place, about a base of 0. The quotient at (0, 0) is exactly 4,000,000,000.5, which goes to the even 4,000,000,000 as its negative does
abbrev pub brink : Survey
brink = survey (0 ∷ 0 ∷ 0 ∷ []) (0 ∷ 0 ∷ 0 ∷ []) (pos 2_482_758_621 ∷ neg_ℤ (pos 1_241_379_310) ∷ neg_ℤ (pos 1_241_379_311) ∷ []) (30 ∷ 1 ∷ 1 ∷ [])

abbrev peak_row : ℕ → ℕ → List ℤ → List ℤ
peak_row a b next = pos a ∷ pos b ∷ pos a ∷ pos 0 ∷ next

pub record Brink : Type 0 where
  pub quotient_is : coefficient (gathered 16 1 1 1 1 (points_of (from_base brink)) no_sums) ≡ fitted (fin false 8_000_000_001 (negsuc 0))
  pub residual : last_residuals one brink ≡ pos 232_758_621 ∷ neg_ℤ (pos 3_491_379_310) ∷ neg_ℤ (pos 3_491_379_311) ∷ []
  pub lattice : single_lattice one brink ≡ peak_row 250_000_000 1_000_000_000 (peak_row 1_000_000_000 4_000_000_000 (peak_row 250_000_000 1_000_000_000 (peak_row 0 0 [])))
  pub accepted_levels : in_levels_check one brink ≡ none

pub at_the_brink : Brink
unfolding single_lattice last_residuals in_levels_check final_check shifted differences base near_mean total running levels_check level_check quotient_check residual_check sum_check range_check lowered level_height height along weighted control level level_of level_value fitted_at gathered touched uses weight basis squares add_squares grown no_sums coefficient settled kept near_float signed near near_up near_down even floor or_zero residuals store controls columns rows unit_of cells_at unit_at tabulate points_of cell offset numerator denominator square cube in_range present require ◌then◌ first_of lt of_bits add mul div of_int
at_the_brink = record { quotient_is = refl; residual = refl; lattice = refl; accepted_levels = refl }

-- ---- no points

get_d_zeros : (n i : ℕ) → get_or (zeros n) i (pos 0) ≡ pos 0
get_d_zeros n i = go (dec_lt i n)
  where
    go : Dec (i < n) → get_or (zeros n) i (pos 0) ≡ pos 0
    go (yes l) = get_or-replicate n i (pos 0) (pos 0) l
    go (no g) = get_or-eq_default (zeros n) (pos 0) (rw (length-replicate n (pos 0)) (omega arith))

control_zeros : (m n i j : ℕ) → control m (zeros n) i j ≡ pos 0
unfolding control
control_zeros m n i j = get_d_zeros n (j * (m + 3) + i)

masked_zeros : (odd : ℕ) (f : ℕ → ℤ) (c : ℕ) → ((q : ℕ) → f q ≡ pos 0) → masked odd f c ≡ pos 0
unfolding masked
masked_zeros zero f c h = rw (h c, h (c + 1))
masked_zeros (suc odd) f c h = rw (h c, h (c + 1), h (c + 2))

refined_zeros : (m n i j : ℕ) → refined (control m (zeros n)) i j ≡ pos 0
unfolding refined finer2 finer near near_up near_down even floor
refined_zeros m n i j = ap (λ v. near v 64) (masked_zeros (j % 2) _ (j / 2) (λ r. masked_zeros (i % 2) _ (i / 2) (λ q. control_zeros m n q r)))

module _ (a : Shape) (s : Survey) (none-given : point_count s ≡ 0) where
  level_zeros : (k : ℕ) → level a s k ≡ zeros (controls (columns a k) (rows a k))
  unfolding level level_of level_value fitted_at points_of gathered no_sums coefficient settled or_zero store tabulate lt of_bits
  level_zeros k = rw none-given (tabulate_replicate (controls (columns a k) (rows a k)) (pos 0))

  running_zeros : (k : ℕ) → running a s k ≡ zeros (controls (columns a k) (rows a k))
  unfolding running raised store
  running_zeros zero = level_zeros zero
  running_zeros (suc k) =
      let w = columns a (suc k) + 3 in
      tabulate_same (here (suc k)) _ (λ q. pos 0)
      (λ q l.
      ap₂ ◌+ℤ◌
      (ap (λ r. refined (control (columns a k) r) (q % w) (q / w)) (running_zeros k) ∙ refined_zeros (columns a k) (here k) (q % w) (q / w))
      (ap (λ r. control (columns a (suc k)) r (q % w) (q / w)) (level_zeros (suc k)) ∙ control_zeros (columns a (suc k)) (here (suc k)) (q % w) (q / w)))
      ∙ tabulate_replicate (here (suc k)) (pos 0)
    where
      here : ℕ → ℕ
      here k = controls (columns a k) (rows a k)

  -- no figure of a level leaves its range
  quotients_fine : (k : ℕ) → quotient_check a s k ≡ none
  unfolding quotient_check level_value fitted_at points_of gathered no_sums coefficient settled present require tabulate lt of_bits
  quotients_fine k = first_of_all _ _ (λ q l. rw none-given refl)

  residuals_fine : (k : ℕ) → residual_check a s k ≡ none
  unfolding residual_check range_check first_of
  residuals_fine k = rw none-given refl

  sums_fine : (k : ℕ) → sum_check a s k ≡ none
  unfolding sum_check
  sums_fine k = size_range_check _ _ _ (λ q l. rw (running_zeros k, get_d_zeros (controls (columns a k) (rows a k)) q) zero-le)

  level_fine : (k : ℕ) → level_check a s k ≡ none
  unfolding level_check
  level_fine k = then_none _ _ (quotients_fine k) ∙ then_none _ _ (residuals_fine k) ∙ sums_fine k

  levels_fine : levels_check a s ≡ none
  unfolding levels_check
  levels_fine = first_of_all (a.h + 1) (level_check a s) (λ k l. level_fine k)

module _ (a : Shape) (s : Survey) (surveyed : Surveyed a s) (none-given : point_count s ≡ 0) where
  no_heights : length s.zs ≡ 0
  no_heights = surveyed.as_many_z ∙ none-given

  no_residuals : last_residuals a s ≡ []
  unfolding last_residuals residuals lowered tabulate
  no_residuals = rw (add-one a.h, none-given) refl

  -- the base of no points is 0, so nothing is added
  single_zeros : single_lattice a s ≡ zeros (K a)
  unfolding single_lattice K
  single_zeros = ap₂ shifted (no_base s.zs no_heights) (running_zeros a (from_base s) none-given a.h) ∙ shifted_zeros (K a) (pos 0)

  differences_fine : difference_check s.zs ≡ none
  unfolding difference_check range_check first_of
  differences_fine = rw no_heights refl

  figures_zeros : in_levels_check a s ≡ none
  unfolding in_levels_check final_check
  figures_zeros =
      then_none _ _ (levels_fine a (from_base s) none-given)
      ∙ size_range_check _ _ _ (λ q l. rw (single_zeros, get_d_zeros (K a) q) zero-le)

  -- "No points is accepted: all zero"
  pub no_points : (lent : Lent) → lent_check a 0 lent ≡ none
      → fit_call a s lent
      ≡ outcome (accepted (finest a))
      (cleared a 0 (record { lattice = over (replicate (K a) (pos 0)) lent.lattice; residual = lent.residual; whole = lent.whole; floats = lent.floats }))
  unfolding fit_call fit_end fit_check points_check first_of results over
  no_points lent room =
      let fine : fit_check a s lent ≡ none =
      then_none _ _ (surveyed_passes a s surveyed)
      ∙ then_none _ _ (rw none-given room)
      ∙ then_none _ _ (rw none-given refl)
      ∙ then_none _ _ differences_fine
      ∙ figures_zeros in
      rw (fine, none-given, no_residuals, single_zeros) refl
