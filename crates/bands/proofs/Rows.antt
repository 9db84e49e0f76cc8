-- The rows of a band: where the cell's row of the lattice ends, they do.
use mathlib.Core.Path.{◌≡◌}
use Prim.Native.Nat.{ℕ, ◌+◌, ◌-◌, ◌*◌, ◌/◌, ◌%◌, ◌^◌, ◌≤◌, ◌<◌, min}
use native.Mathlib.Nat.{mul-le-mul, mul-le-mul_left, mul_comm, mod-eq_of_lt, le-div_iff_mul-le, div-lt_iff_lt-mul, mul-div-le}
use native.Mathlib.Omega.{arith}
use lib.Pow.{pow_pos, pow_mono}
use Rattle.rules.specs.Surface.{cell}
use Rattle.rules.proofs.Laws.Basis.{cell_below, cell_mono}
use Rattle.strips.specs.Strips.{row_cell}
use Rattle.strips.specs.declared.piece.Strip.{Strip}
use Rattle.bands.specs.Bands.{RowsInside, Band}

-- fewer rows
pub rows_before : {s : Strip} {end rows : ℕ} → end ≤ rows → RowsInside s rows → RowsInside s end
rows_before h r = record { inside = λ j k. r.inside j (omega arith) }

-- the position of row j
abbrev row_y : Strip → ℕ → ℕ
row_y s j = s.nodes.y0 + s.nodes.step * j

module _ (s : Strip) (j : ℕ) {k : ℕ} (at : k ≡ row_cell s j) where
  abbrev U : ℕ
  U = 2 ^ s.grid.e

  pub row_below : k < s.grid.cells.n
  row_below = rw at (cell_below U s.grid.cells.n (row_y s j) s.grid.gridded.n_some)

  no_earlier : (i : ℕ) → j ≤ i → k ≤ row_cell s i
  no_earlier i h = rw at (cell_mono U s.grid.cells.n (row_y s j) (row_y s i) (pow_pos s.grid.e) (omega (arith, mul-le-mul_left s.nodes.step h)))

  pub last_band : k + 1 ≡ s.grid.cells.n → (end : ℕ) → Band s k j end
  last_band e end = record { one = λ i h l. omega (arith, no_earlier i h, cell_below U s.grid.cells.n (row_y s i) s.grid.gridded.n_some) }

  -- the first position past the cell, as code shifts to it
  abbrev next : ℕ
  next = (k + 1) * U

  next_most : next ≤ 512 * 512
  next_most = let h : k + 1 ≤ 512 = omega (arith, row_below, s.grid.gridded.n_most) in mul-le-mul h (pow_mono {j = 9} s.grid.gridded.e_most)

  pub next_shifted : next % 2 ^ 64 ≡ next
  next_shifted = mod-eq_of_lt {n = next} {m = 2 ^ 64} (omega (arith, next_most))

  module _ (inner : k + 1 ≡ s.grid.cells.n → ⊥) where
    -- the row lies in the cell, and so before its end
    pub row_before : row_y s j < next
    unfolding cell
    row_before = (div-lt_iff_lt-mul {k = U} (pow_pos s.grid.e)).0 (omega (arith, at, row_below, inner))

    pub inner_band : (end : ℕ) → ((i : ℕ) → i < end → row_y s i < next) → Band s k j end
    unfolding cell
    inner_band end all = record { one = λ i h l. omega (arith, no_earlier i h, (div-lt_iff_lt-mul {k = U} (pow_pos s.grid.e)).1 (all i l)) }

    module _ (stepped : 0 < s.nodes.step) (rows : ℕ) {end : ℕ} (is : end ≡ min rows ((next - 1 - s.nodes.y0) / s.nodes.step + 1)) where
      abbrev steps : ℕ
      steps = (next - 1 - s.nodes.y0) / s.nodes.step

      pub end_past : j < rows → j < end
      end_past h =
          let fits : j ≤ steps = (le-div_iff_mul-le stepped).1 (omega (arith, row_before, mul_comm j s.nodes.step)) in
          omega (arith, is, fits)

      pub end_band : Band s k j end
      end_band = inner_band end (λ i l. let h : i ≤ steps = omega (arith, is, l) in omega (arith, mul-le-mul_left s.nodes.step h, mul-div-le (next - 1 - s.nodes.y0) s.nodes.step, row_before))
