-- What the answers of the shared checks say.
use Rattle.std.specs.Prelude.{ℕ, ◌^◌, ◌≡◌, List, leb, ℤ, length, Result, Ok}
use Rattle.rules.specs.Grid.{controls}
use Rattle.rules.specs.Answers as rule
use Rattle.rules.specs.Answers.{◌then◌}
use Rattle.rules.specs.Calls.{cells_check, unit_check, lattice_check}
use Rattle.answers.specs.Cause.{check}
use Rattle.answers.specs.declared.Refusal.{Refusal}
use Rattle.grid.specs.declared.Grid.{Grid}

-- ---- the checks before anything is read from a lattice

-- 1 and 2
unfoldable pub grid_check : ℕ → ℕ → ℕ → rule.Check
grid_check m n U = cells_check 512 m n then unit_check U

-- 4 and 6
unfoldable pub stored_check : ℕ → ℕ → List ℤ → rule.Check
stored_check m n lattice = rule.require (leb (controls m n) (length lattice)) rule.short then lattice_check m n lattice

-- g is the grid of m by n cells of U positions, and P holds of its e
pub record Behind (m n U : ℕ) (P : ℕ → Type 0) (g : Grid) : Type 0 where
  pub m_is : g.cells.m ≡ m
  pub n_is : g.cells.n ≡ n
  pub unit_is : U ≡ 2 ^ g.e
  pub holds : P g.e

-- r is the answer of the check c; where c refuses nothing, it is such a grid
pub record Tells (c : rule.Check) (m n U : ℕ) (P : ℕ → Type 0) (r : Result Grid Refusal) : Type 0 where
  pub is : check r ≡ c
  pub behind : (g : Grid) → r ≡ Ok g → Behind m n U P g
