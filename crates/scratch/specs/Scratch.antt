-- What the levels ask of their arguments, and what stands in the scratch between their steps. With `most` control values at level h, whole
-- scratch has the running lattice after an even level at 0, after an odd one at `most`, the level lattice at 2 × most and the residuals at 3 × most.
use Rattle.std.specs.Prelude.{ℕ, suc, ◌+◌, ◌-◌, ◌*◌, ◌%◌, ◌^◌, ◌≤◌, ◌<◌, ◌≡◌, List, ℤ, length, take, drop}
use Rattle.std.proofs.Math.Option.{none}
use Rattle.std.proofs.Common.{mul-le-mul_right, arith}
use Rattle.algebra.specs.Table.{area, area_part, length_area}
use Rattle.rules.specs.Answers.{Check, ◌then◌}
use Rattle.rules.specs.Grid.{controls}
use Rattle.rules.specs.Fit.{Shape, columns, rows, unit_of, Survey, survey, point_count, valued, residuals, level, running, quotient_check, residual_check, sum_check, level_check, levels_check}
use Rattle.rules.specs.Calls.{K}
use Rattle.rules.specs.Laws.Checks.{AllInRange}
use Rattle.rules.specs.Laws.Passed.{Sides, Surveyed, Placed}
use Rattle.survey.specs.declared.Points.{Points}

-- ---- arguments

-- a survey whose checks have passed, and scratch of these lengths
pub record Levelable (a : Shape) (s : Survey) (most whole floats : ℕ) : Type 0 where
  pub surveyed : Surveyed a s
  pub placed : (i : ℕ) → i < point_count s → Placed 16 (columns a a.h) (rows a a.h) s i
  pub most_is : most ≡ K a
  pub most_fits : most ≤ 265_225
  pub whole_room : 3 * most + point_count s ≤ whole
  pub floats_room : 2 * most ≤ floats

-- the control values of level k
abbrev pub places : Shape → ℕ → ℕ
places a k = controls (columns a k) (rows a k)

-- the cells of level k as the code has them: m by n of them, with at most `most` control values
pub record Celled (a : Shape) (k most m n : ℕ) : Type 0 where
  pub m_is : m ≡ columns a k
  pub n_is : n ≡ rows a k
  pub sides : Sides 512 m n
  pub count : (m + 3) * (n + 3) ≤ most
  pub most_fits : most ≤ 265_225

-- ---- scratch

-- the two areas that running lattices alternate between
pub area_within : (k most : ℕ) → k % 2 * most ≤ most
area_within k most = omega (arith, mul-le-mul_right {m = k % 2} {n = 1} most (omega arith))

-- a part that is lent is an area, and is in range where that is
pub part_ranged : (n k : ℕ) (whole : List ℤ) → n + k ≤ length whole → AllInRange k (area n k whole)
    → AllInRange (length (take (n + k - n) (drop n whole))) (take (n + k - n) (drop n whole))
part_ranged n k whole room ranged = rw (area_part n k whole, length_area n k whole room) ranged

-- a survey whose values stand in scratch, from place n on
abbrev pub survey_at : List ℕ → List ℕ → List ℕ → ℕ → List ℤ → Survey
survey_at xs ys qs n whole = survey xs ys (area n (length xs) whole) qs

-- points with other heights
abbrev pub survey_with : Points → List ℤ → Survey
survey_with p zs = survey p.xs.now p.ys.now zs p.qs.now

-- running lattice k in its area
pub record RunningThere (a : Shape) (s : Survey) (most k : ℕ) (whole : List ℤ) : Type 0 where
  pub is : area (k % 2 * most) (places a k) whole ≡ running a s k
  pub ranged : AllInRange (places a k) (running a s k)

-- the residuals before level k in theirs
pub record ResidualsThere (a : Shape) (s : Survey) (most k : ℕ) (whole : List ℤ) : Type 0 where
  pub is : area (3 * most) (point_count s) whole ≡ residuals a s k
  pub ranged : AllInRange (point_count s) (residuals a s k)

-- level lattice k in its area, and the running lattice of the level before, if there is one
pub record LevelThere (a : Shape) (s : Survey) (most k : ℕ) (whole : List ℤ) : Type 0 where
  pub is : area (2 * most) (places a k) whole ≡ level a s k
  pub running_before : (j : ℕ) → k ≡ suc j → RunningThere a s most j whole

-- before level k: the residuals, and the running lattice of the level before, if there is one
pub record Before (a : Shape) (s : Survey) (most k : ℕ) (whole : List ℤ) : Type 0 where
  pub residuals_there : ResidualsThere a s most k whole
  pub running_before : (j : ℕ) → k ≡ suc j → RunningThere a s most j whole

-- level lattice k is fitted, and the residuals are those before level j: k before they are lowered, k + 1 afterwards
pub record Halfway (a : Shape) (s : Survey) (most k j : ℕ) (whole : List ℤ) : Type 0 where
  pub level_there : LevelThere a s most k whole
  pub residuals_there : ResidualsThere a s most j whole

-- what the first half of level k asks, on m by n cells of 2^e positions
pub record LevelReady (a : Shape) (s : Survey) (most k m n e : ℕ) (whole : List ℤ) (floats : ℕ) : Type 0 where
  pub celled : Celled a k most m n
  pub unit_is : 2 ^ e ≡ unit_of a k
  pub e_most : e ≤ 9
  pub before : Before a s most k whole
  pub as_many_y : length s.ys ≡ point_count s
  pub as_many_z : length s.zs ≡ point_count s
  pub as_many_q : length s.qs ≡ point_count s
  pub placed : (i : ℕ) → i < point_count s → Placed (2 ^ e) m n (valued s (residuals a s k)) i
  pub whole_room : 3 * most + point_count s ≤ length whole
  pub floats_room : 2 * most ≤ floats

-- ---- what a step finds, and what it leaves

-- a step finds the check that is due, and where that refuses nothing its scratch is in this state
pub record Judged (due : Check) (State : List ℤ → Type 0) (found : Check) (whole : List ℤ) : Type 0 where
  pub is : found ≡ due
  pub leaves : found ≡ none → State whole

-- "a quotient, then a residual": level lattice k is fitted and its heights are taken from the residuals
abbrev pub FirstHalf : Shape → Survey → ℕ → ℕ → Check → List ℤ → Type 0
FirstHalf a s most k = Judged (quotient_check a s k then residual_check a s k) (Halfway a s most k (suc k))

-- "then a sum": level lattice k is added
abbrev pub SecondHalf : Shape → Survey → ℕ → ℕ → Check → List ℤ → Type 0
SecondHalf a s most k = Judged (sum_check a s k) (RunningThere a s most k)

abbrev pub WholeLevel : Shape → Survey → ℕ → ℕ → Check → List ℤ → Type 0
WholeLevel a s most k = Judged (level_check a s k) (Before a s most (suc k))

-- the last running lattice and the residuals after the last level, in their areas
pub record Finished (a : Shape) (s : Survey) (most : ℕ) (whole : List ℤ) : Type 0 where
  pub lattice_is : area (a.h % 2 * most) most whole ≡ running a s a.h
  pub lattice_ranged : AllInRange most (running a s a.h)
  pub residuals_are : area (3 * most) (point_count s) whole ≡ residuals a s (a.h + 1)

abbrev pub Levelled : Shape → Survey → ℕ → Check → List ℤ → Type 0
Levelled a s most = Judged (levels_check a s) (Finished a s most)
