-- What the laws of `proofs/Laws/Refused` speak of.
use Rattle.std.specs.Prelude.{◌≡◌, ◌⊎◌, List, ℕ, suc, ◌+◌, ◌/◌, ◌%◌, ◌≤◌, ◌<◌, ℤ, length}
use Rattle.std.proofs.Math.Option.{none}
use Rattle.rules.specs.Grid.{controls}
use Rattle.rules.specs.Fit.{Shape, columns, rows, Survey, point_count, valued, differences, from_base, level_value, residuals, running, single_lattice}
use Rattle.rules.specs.Fit.{quotient_check, level_check, levels_check}
use Rattle.rules.specs.Laws.Checks.{AllInRange, FirstOut}

-- ---- which figure left its range

-- the difference of point i is out of range, and that of no point before it
pub record DifferenceOut (zs : List ℤ) (i : ℕ) : Type 0 where
  pub listed : i < length zs
  pub out : FirstOut i (differences zs)

-- the fit of the values of s came to level k, since no figure of a level before it is out of range
pub record Reached (a : Shape) (s : Survey) (k : ℕ) : Type 0 where
  pub of_fit : k ≤ a.h
  pub before : (j : ℕ) → j < k → level_check a s j ≡ none

-- a quotient of level k is no number or rounds out of range
pub record QuotientOut (a : Shape) (s : Survey) (k : ℕ) : Type 0 where
  pub reached : Reached a s k
  pub at : ℕ
  pub stored : at < controls (columns a k) (rows a k)
  pub no_value : level_value a k (valued s (residuals a s k)) (at % (columns a k + 3)) (at / (columns a k + 3)) ≡ none

-- no quotient of level k is refused, and a residual that the level leaves is out of range
pub record ResidualOut (a : Shape) (s : Survey) (k : ℕ) : Type 0 where
  pub reached : Reached a s k
  pub quotients : quotient_check a s k ≡ none
  pub point : ℕ
  pub listed : point < point_count s
  pub out : FirstOut point (residuals a s (suc k))

-- no quotient of level k is refused, all residuals are in range, and a control value of the running lattice is not
pub record SumOut (a : Shape) (s : Survey) (k : ℕ) : Type 0 where
  pub reached : Reached a s k
  pub quotients : quotient_check a s k ≡ none
  pub residuals_in : AllInRange (point_count s) (residuals a s (suc k))
  pub at : ℕ
  pub stored : at < controls (columns a k) (rows a k)
  pub out : FirstOut at (running a s k)

-- k is level h, no figure of any level is out of range, and a control value of the finished lattice is
pub record FinalOut (a : Shape) (s : Survey) (k : ℕ) : Type 0 where
  pub last : a.h ≡ k
  pub levels_in : levels_check a (from_base s) ≡ none
  pub at : ℕ
  pub stored : at < controls (columns a a.h) (rows a a.h)
  pub out : FirstOut at (single_lattice a s)

-- what a fit's number and place tell a surveyor. The levels are those of the differences.
pub record WhichFigure (a : Shape) (s : Survey) (number place : ℕ) : Type 0 where
  pub by_15 : number ≡ 15 → DifferenceOut s.zs place
  pub by_7 : number ≡ 7 → QuotientOut a (from_base s) place
  pub by_13 : number ≡ 13 → ResidualOut a (from_base s) place
  pub by_14 : number ≡ 14 → SumOut a (from_base s) place ⊎ FinalOut a s place
