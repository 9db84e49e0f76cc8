-- The bounds of floor, for any divisor d ≥ 1.
use Rattle.std.specs.Prelude.{◌↔◌, ℕ, ◌<◌, ℤ, pos, negsuc, ◌+ℤ◌, ◌*ℤ◌, ◌≤ℤ◌, ◌<ℤ◌}
use Rattle.std.proofs.Common.{mod-lt, arith}
use Rattle.std.proofs.Math.Nat.{div-add-mod}
use Rattle.algebra.specs.Difference.{whole}
use Rattle.algebra.specs.Size.{≤ℤ_trans, ≤ℤ-<ℤ_trans, <ℤ_suc, ≤ℤ_scale, <ℤ_cancel}
use Rattle.rules.specs.Rounding.{floor}
use Rattle.rules.specs.Laws.Rounding.{Floored}

pub floor_bound : (v : ℤ) (d : ℕ) → 0 < d → Floored v d (floor v d)
unfolding floor
floor_bound (pos a) d h = record {
  low = simp whole (omega (arith, div-add-mod a d));
  high = simp whole (omega (arith, div-add-mod a d, mod-lt a h));
}
floor_bound (negsuc a) d h = record {
  low = simp whole (omega (arith, div-add-mod a d, mod-lt a h));
  high = simp whole (omega (arith, div-add-mod a d));
}

-- whole numbers with m ≤ v / d < n + 1 have m ≤ n
pub below : (v : ℤ) (d : ℕ) (m n : ℤ) → (pos d *ℤ m) ≤ℤ v → v <ℤ (pos d *ℤ (n +ℤ pos 1)) → m ≤ℤ n
below v d m n l k = (<ℤ_suc m n).0 (<ℤ_cancel d m (n +ℤ pos 1) (≤ℤ-<ℤ_trans l k))

-- so the whole numbers that are at most v / d are those up to its floor
pub below_floor : (v z : ℤ) (d : ℕ) → 0 < d → (z ≤ℤ floor v d) ↔ ((pos d *ℤ z) ≤ℤ v)
below_floor v z d h = (λ k. ≤ℤ_trans (≤ℤ_scale d k) f.low, λ k. below v d z (floor v d) k f.high)
  where
    f : Floored v d (floor v d)
    f = floor_bound v d h
