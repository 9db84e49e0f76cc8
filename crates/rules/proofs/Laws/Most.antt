-- The sum along an axis is at most what the greatest of its four values gives.
use Rattle.std.specs.Prelude.{pos, ◌*ℤ◌, ◌≤ℤ◌}
use Prim.Native.Nat.{ℕ, ◌+◌, ◌*◌, ◌≤◌, ◌<◌}
use Rattle.std.proofs.Math.IntN.{ℤ}
use Rattle.rules.specs.Surface.{cube, numerator, denominator, cell, offset, along}
use Rattle.rules.proofs.Laws.Basis.{weighted_most, numerator_non_neg, numerators_sum, offset_within}

module _ (U m x : ℕ) where
  abbrev at : ℕ → ℤ
  at = numerator (pos U) (pos (offset U m x))

  -- where the four values of the cell are at most B, the sum is at most that of B
  pub along_most : 0 < U → 0 < m → x ≤ U * m → (f : ℕ → ℤ) (B : ℤ) → ((s : ℕ) → cell U m x ≤ s → s < cell U m x + 4 → f s ≤ℤ B)
      → along U m x f ≤ℤ (pos (denominator U) *ℤ B)
  unfolding along denominator cube
  along_most u h i f B b =
      rw (numerators_sum (pos U) (pos (offset U m x))) at (weighted_most at (λ k l. numerator_non_neg U (offset U m x) (offset_within U m x u h i) k) f (cell U m x) B b)
