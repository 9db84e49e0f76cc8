-- A strip's columns: the sum of a lattice row at a column is read by their cells and numerators.
use mathlib.Core.Path.{◌≡◌, refl}
use mathlib.Core.List.{List}
use Prim.Native.Nat.{ℕ, ◌+◌, ◌*◌, ◌^◌, ◌<◌}
use lib.IntN.{ℤ}
use lib.ListN.{get_or}
use Rattle.basis.specs.Weighing.{Grounded, Weighable, line_height}
use Rattle.basis.specs.Sums.{row_asked, row_is}
use Rattle.basis.specs.declared.Basis.{Basis}
use Rattle.strips.specs.Strips.{taps_at, Taps, column_sum}
use Rattle.strips.specs.Reading.{on_column}
use Rattle.strips.specs.declared.piece.Strip.{Strip}

-- what `line_height` asks and returns of column i and lattice row r
module _ (s : Strip) (l : List ℤ) (cells : List ℕ) (taps : List Basis) (g : Grounded s.grid.cells.m s.grid.cells.n s.grid.e l) (t : Taps s s.w cells taps) (r i : ℕ)
    (h : r < s.grid.cells.n + 3) (k : i < s.w) {wide : ℕ} (is : wide ≡ s.grid.cells.m + 3) where
  place : r * wide + get_or cells i 0 ≡ r * (s.grid.cells.m + 3) + get_or cells i 0
  place = rw is refl

  pub asked : Weighable l (r * wide + get_or cells i 0) 1 (taps_at taps i) s.grid.e
  asked = row_asked g (on_column s i k) (t i k) r _ h place

  pub sum_is : line_height l (r * wide + get_or cells i 0) 1 (taps_at taps i) (2 ^ s.grid.e) ≡ column_sum s l r i
  sum_is = row_is (t i k) l r _ place
