-- What the slopes' contracts cite beside the rules.
use Rattle.std.specs.Prelude.{List, ℕ, ◌+◌, ◌*◌, ◌≤◌, ◌<◌, ℤ, pos, ◌*ℤ◌}
use Rattle.rules.specs.Rounding.{near}
use Rattle.rules.specs.Surface.{weighted}
use Rattle.rules.specs.Slope.{slope_numerator, slope_denominator}
use Rattle.rules.specs.Calls as calls
use Rattle.basis.specs.Weighing.{Holds, numerators, weight_size, Weighable, line_height}
use Rattle.basis.specs.declared.Basis.{Basis}
use Rattle.slopes.specs.declared.Slopes.{Slopes}

-- the rules' slopes for the code's
abbrev pub slopes_of : Slopes → calls.Slopes
slopes_of s = record { along_x = s.along_x; along_y = s.along_y }

-- 1,000 times a slope numerator
abbrev pub thousandfold : ℤ → ℤ → ℕ → ℤ
thousandfold U a k = pos 1_000 *ℤ slope_numerator U a k

-- b holds 1,000 times the four slope numerators of the offset a in a cell of U positions
abbrev pub WeighsSlope : Basis → ℕ → ℕ → Type 0
WeighsSlope b U a = Holds b (thousandfold (pos U) (pos a))

-- the four lines from place q on, each `next` places from the one before, can be weighed by b, and their heights by s
pub record Slopable (lattice : List ℤ) (q next apart : ℕ) (b s : Basis) (e : ℕ) : Type 0 where
  pub line : (k : ℕ) → k < 4 → Weighable lattice (q + k * next) apart b e
  pub weight_most : weight_size s ≤ 805_306_368

-- near of the sum of their heights, over 2U³
unfoldable pub line_slope : List ℤ → ℕ → ℕ → ℕ → Basis → Basis → ℕ → ℤ
line_slope lattice q next apart b s U = near (weighted (numerators s) (λ k. line_height lattice (q + k * next) apart b U) 0) (slope_denominator U)
