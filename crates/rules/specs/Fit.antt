-- "The whole fit" of document 01, and the base of document 02's job 4: a survey, its base, its level lattices and residuals, the single lattice, and D, T
-- and V of demand 3. Definitions only.
use Rattle.std.specs.Prelude.{ℕ, zero, suc, ◌+◌, ◌*◌, ◌/◌, ◌%◌, ◌^◌, ◌<◌, ◌≡◌, Bool, true, false, List, ℤ, pos, neg_ℤ, ◌+ℤ◌, ◌-ℤ◌, ◌*ℤ◌, length, get_or}
use Rattle.std.proofs.Math.Option.{Option, none, some}
use Rattle.algebra.specs.Table.{tabulate}
use Rattle.rules.specs.Rounding.{near}
use Rattle.rules.specs.Grid.{cells_at, unit_at, controls, control, store}
use Rattle.rules.specs.Surface.{surface, height}
use Rattle.rules.specs.Level.{Point, fitted_at}
use Rattle.rules.specs.Refinement.{refined}
use Rattle.rules.specs.Answers.{Check, require, ◌then◌, first_of, range_check, difference, quotient, residual, sum}

-- "A fit has m0 by n0 coarsest cells, each 1 to 16, and h from 0 to 5"
pub record Shape : Type 0 where
  pub m0 : ℕ
  pub n0 : ℕ
  pub h : ℕ

abbrev pub shape : ℕ → ℕ → ℕ → Shape
shape m0 n0 h = record { m0 = m0; n0 = n0; h = h }

-- the cells along x and along y, and the U, of level k
unfoldable pub columns : Shape → ℕ → ℕ
columns a k = cells_at a.m0 k

unfoldable pub rows : Shape → ℕ → ℕ
rows a k = cells_at a.n0 k

unfoldable pub unit_of : Shape → ℕ → ℕ
unit_of a k = unit_at a.h k

-- ---- a survey

-- "x, y, z lists", and a confidence "in a fourth list": a point's x, y, z and q stand at one place of the four. The lists that a reader is lent have this
-- form too, of any lengths.
pub record Survey : Type 0 where
  pub xs : List ℕ
  pub ys : List ℕ
  pub zs : List ℤ
  pub qs : List ℕ

abbrev pub survey : List ℕ → List ℕ → List ℤ → List ℕ → Survey
survey xs ys zs qs = record { xs = xs; ys = ys; zs = zs; qs = qs }

-- p, the common length of the lists
abbrev pub point_count : Survey → ℕ
point_count s = length s.xs

abbrev pub point_at : Survey → ℕ → Point
point_at s i = record { x = get_or s.xs i 0; y = get_or s.ys i 0; z = get_or s.zs i (pos 0); q = get_or s.qs i 0 }

unfoldable pub points_of : Survey → List Point
points_of s = tabulate (point_count s) (point_at s)

-- "q = 1 throughout", of document 02
abbrev pub AllOne : Survey → Type 0
AllOne s = (i : ℕ) → i < point_count s → (point_at s i).q ≡ 1

-- the same points with other values
abbrev pub valued : Survey → List ℤ → Survey
valued s values = record { xs = s.xs; ys = s.ys; zs = values; qs = s.qs }

-- ---- the base, of document 02's job 4: "Subtract a base first: near of the mean height, or 0 with no points". "The base ignores q."

-- the sum of the first n of these values
unfoldable pub total : ℕ → List ℤ → ℤ
total zero values = pos 0
total (suc n) values = total n values +ℤ get_or values n (pos 0)

-- near of the mean of n values whose sum is v
unfoldable pub near_mean : ℤ → ℕ → ℤ
near_mean v zero = pos 0
near_mean v (suc n) = near v (suc n)

unfoldable pub base : List ℤ → ℤ
base zs = near_mean (total (length zs) zs) (length zs)

-- each of these values with b added
unfoldable pub shifted : ℤ → List ℤ → List ℤ
shifted b values = tabulate (length values) (λ i. get_or values i (pos 0) +ℤ b)

unfoldable pub differences : List ℤ → List ℤ
differences zs = shifted (neg_ℤ (base zs)) zs

-- "Fit the differences": the survey that the levels are fitted to
abbrev pub from_base : Survey → Survey
from_base s = valued s (differences s.zs)

-- ---- level k of a fit, to a survey whose values are the residuals before it

-- the control value of the level lattice in column i and row j, none where it is refused
unfoldable pub level_value : Shape → ℕ → Survey → ℕ → ℕ → Option ℤ
level_value a k s = fitted_at (unit_of a k) (columns a k) (rows a k) (points_of s)

unfoldable pub or_zero : Option ℤ → ℤ
or_zero none = pos 0
or_zero (some z) = z

-- "fit level lattice k to the residuals". Where a value is refused the fit is, and nobody is given what stands for that value here.
unfoldable pub level_of : Shape → ℕ → Survey → List ℤ
level_of a k s = store (columns a k) (rows a k) (λ i j. or_zero (level_value a k s i j))

-- the height of level lattice k at a point
unfoldable pub level_height : Shape → ℕ → List ℤ → Point → ℤ
level_height a k lattice p = height (unit_of a k) (columns a k) (rows a k) (control (columns a k) lattice) p.x p.y

-- "take from each residual the height of level lattice k there"
unfoldable pub lowered : Shape → ℕ → List ℤ → Survey → List ℤ
lowered a k lattice s = tabulate (point_count s) (λ i. (point_at s i).z -ℤ level_height a k lattice (point_at s i))

-- "refine the running lattice .. and add level lattice k to it": from the running lattice of level k to that of level k + 1
unfoldable pub raised : Shape → ℕ → List ℤ → List ℤ → List ℤ
raised a k lattice added =
    store (columns a (suc k)) (rows a (suc k)) (λ i j. refined (control (columns a k) lattice) i j +ℤ control (columns a (suc k)) added i j)

-- ---- all levels, to a survey whose values are z

-- the residuals before level k. "Residuals start as z"
unfoldable pub residuals : Shape → Survey → ℕ → List ℤ
residuals a s zero = s.zs
residuals a s (suc k) = let before = valued s (residuals a s k) in lowered a k (level_of a k before) before

-- level lattice k. "The level lattices are those that these rules give for the point list, m0, n0 and h"
unfoldable pub level : Shape → Survey → ℕ → List ℤ
level a s k = level_of a k (valued s (residuals a s k))

-- the running lattice after level k, "none at k = 0" before
unfoldable pub running : Shape → Survey → ℕ → List ℤ
running a s zero = level a s zero
running a s (suc k) = raised a k (running a s k) (level a s (suc k))

-- ---- the results of a fit

-- "The running lattice after level h is the single lattice", and of document 02 "add the base to every control value of the finished lattice"
unfoldable pub single_lattice : Shape → Survey → List ℤ
single_lattice a s = shifted (base s.zs) (running a (from_base s) a.h)

-- what the levels leave of each difference
unfoldable pub last_residuals : Shape → Survey → List ℤ
last_residuals a s = residuals a (from_base s) (a.h + 1)

-- ---- "a quotient, then a residual, then a sum out of range in a level"

unfoldable pub present : Option ℤ → Bool
present none = false
present (some z) = true

unfoldable pub quotient_check : Shape → Survey → ℕ → Check
quotient_check a s k =
    let w = columns a k + 3 in
    first_of (controls (columns a k) (rows a k)) (λ q. require (present (level_value a k (valued s (residuals a s k)) (q % w) (q / w))) (quotient k))

unfoldable pub residual_check : Shape → Survey → ℕ → Check
residual_check a s k = range_check (point_count s) (residuals a s (suc k)) (λ i. residual k)

unfoldable pub sum_check : Shape → Survey → ℕ → Check
sum_check a s k = range_check (controls (columns a k) (rows a k)) (running a s k) (λ q. sum k)

unfoldable pub level_check : Shape → Survey → ℕ → Check
level_check a s k = quotient_check a s k then residual_check a s k then sum_check a s k

-- levels 0 to h
unfoldable pub levels_check : Shape → Survey → Check
levels_check a s = first_of (a.h + 1) (level_check a s)

-- ---- the checks of a fit whose points are in order

-- 15: "where a difference is out of range, after 6 and before level 0"
unfoldable pub difference_check : List ℤ → Check
difference_check zs = range_check (length zs) (differences zs) difference

-- 14: "a final sum out of range is 14 with level h"
unfoldable pub final_check : Shape → Survey → Check
final_check a s = range_check (controls (columns a a.h) (rows a a.h)) (single_lattice a s) (λ q. sum a.h)

-- what is checked once the levels have begun: each level, and the final sum "after that level's own sums"
unfoldable pub in_levels_check : Shape → Survey → Check
in_levels_check a s = levels_check a (from_base s) then final_check a s

-- ---- D, T and V of demand 3, "in whole numbers"

-- "let D = 36 × (16 × 2^h)⁶"
unfoldable pub the_d : ℕ → ℕ
the_d h = 36 * (16 * 2 ^ h) ^ 6

-- f 0 + f 1 + .. + f k
unfoldable pub sum_to : ℕ → (ℕ → ℤ) → ℤ
sum_to zero f = f zero
sum_to (suc k) f = sum_to k f +ℤ f (suc k)

-- ""Level surface" in demand 3 is the exact surface of level lattice k, with the U of level k". Times D: the double sum is over 36U⁶, and D is 64^k times that.
unfoldable pub level_surface : Shape → Survey → ℕ → ℕ → ℕ → ℤ
level_surface a s x y k = pos (64 ^ k) *ℤ surface (unit_of a k) (columns a k) (rows a k) (control (columns a k) (level a s k)) x y

-- "At a position let T be the exact sum of the level surfaces times D"
unfoldable pub the_t : Shape → Survey → ℕ → ℕ → ℤ
the_t a s x y = sum_to a.h (level_surface a s x y)

-- "The distance promised to the solver is now from the exact level sum plus the base": T of the fit plus base × D
unfoldable pub the_sum : Shape → Survey → ℕ → ℕ → ℤ
the_sum a s x y = the_t a (from_base s) x y +ℤ base s.zs *ℤ pos (the_d a.h)

-- "V the exact surface of the lattice that the fit leaves, times D". "The lattice that the fit leaves is read with U = 16 and the cell counts that the
-- fit returned": m and n. D is 64^h times 36 × 16⁶.
unfoldable pub the_v : ℕ → ℕ → ℕ → List ℤ → ℕ → ℕ → ℤ
the_v h m n lattice x y = pos (64 ^ h) *ℤ surface 16 m n (control m lattice) x y
