-- Demand 3: what it says of a position, and of a fit's answer and the lattice that its slice then holds. Definitions only; D, T and V are in Fit.
use Rattle.std.specs.Prelude.{◌≡◌, List, ℕ, ◌+◌, ◌-◌, ◌*◌, ◌^◌, ◌≤◌, ◌<◌, ℤ, pos, nat_abs, ◌-ℤ◌, ◌*ℤ◌}
use Rattle.rules.specs.Grid.{control}
use Rattle.rules.specs.Fit.{Shape, columns, rows, Survey, from_base, level, the_d, the_sum, the_v}
use Rattle.rules.specs.Answers.{Answer, accepted}
use Rattle.rules.specs.Calls.{CellCounts, height_answer}

-- z is a multiple of d
pub record Multiple (d : ℕ) (z : ℤ) : Type 0 where
  pub factor : ℤ
  pub is : z ≡ pos d *ℤ factor

-- The equal case, in the demand's own words, "for every k from 0 to h each control value of level k is a multiple of 64^(h-k)": each, by its column i
-- and its row j. Document 01 names the case and leaves its words to the demand.
pub record EqualCase (a : Shape) (s : Survey) : Type 0 where
  pub multiple : (k : ℕ) → k ≤ a.h → (i j : ℕ) → i < columns a k + 3 → j < rows a k + 3
      → Multiple (64 ^ (a.h - k)) (control (columns a k) (level a s k) i j)

-- "the height is accepted and |2 × D × height - 2 × T| is at most (h+2) × D; in the equal case, V = T", and of document 02 "now from the exact level sum
-- plus the base; the equal case likewise": T plus base × D stands for T, and the levels are those of the differences. "The lattice that the fit leaves is
-- read with U = 16 and the cell counts that the fit returned".
pub record Close (a : Shape) (s : Survey) (cells : CellCounts) (lattice : List ℤ) (x y : ℕ) : Type 0 where
  pub reading : ℤ
  pub accepted_height : height_answer cells.m cells.n 16 lattice x y ≡ accepted reading
  pub distance : nat_abs (pos 2 *ℤ pos (the_d a.h) *ℤ reading -ℤ pos 2 *ℤ the_sum a s x y) ≤ (a.h + 2) * the_d a.h
  pub equal : EqualCase a (from_base s) → the_v a.h cells.m cells.n lattice x y ≡ the_sum a s x y

-- "at every position of its grid"
unfoldable pub CloseEverywhere : Shape → Survey → CellCounts → List ℤ → Type 0
CloseEverywhere a s cells lattice = (x y : ℕ) → x ≤ 16 * a.m0 * 2 ^ a.h → y ≤ 16 * a.n0 * 2 ^ a.h → Close a s cells lattice x y

-- "of every accepted fit"
unfoldable pub Demand3 : Shape → Survey → Answer CellCounts → List ℤ → Type 0
Demand3 a s answered lattice = (cells : CellCounts) → answered ≡ accepted cells → CloseEverywhere a s cells lattice
