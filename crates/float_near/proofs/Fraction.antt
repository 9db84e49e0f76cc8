-- near of a fraction: it is what f64's rounding takes for the nearest, an even whole number moves it, and where it is out of range.
use mathlib.Core.Path.{◌≡◌, sym, ◌∙◌}
use mathlib.Core.Bool.{Bool, true, false}
use mathlib.Core.Logic.{◌↔◌}
use Prim.Native.Nat.{ℕ, ◌+◌, ◌*◌, ◌%◌, ◌<◌}
use native.Mathlib.Omega.{arith}
use lib.IntN.{ℤ, pos, nat_abs, ◌+ℤ◌, ◌-ℤ◌, ◌*ℤ◌}
use lib.Signed.{◌<ℤ◌}
use lib.Ieee.Nearest.{closest}
use Rattle.algebra.specs.Difference.{split, whole}
use Rattle.algebra.specs.Size.{nat_abs_neg}
use Rattle.rules.specs.Grid.{limit}
use Rattle.rules.specs.Rounding.{near}
use Rattle.rules.specs.Level.{signed}
use Rattle.rules.specs.Laws.Rounding.{Tie, odd, middle}
use Rattle.rules.proofs.Laws.Rounding.{near_nearest, nearest_unique, near_odd, near_above}
use Rattle.float_near.proofs.WholeRange.{closest_nearest}

pub closest_near : (a d : ℕ) → 0 < d → pos (closest a d) ≡ near (pos a) d
closest_near a d p = nearest_unique (pos a) d (pos (closest a d)) p (closest_nearest a d p)

-- what is added to the fraction is added to near, also at an exact half if it is even
pub near_moved : (v : ℤ) (d b : ℕ) → 0 < d → b % 2 ≡ 0 → near (v +ℤ pos (b * d)) d ≡ near v d +ℤ pos b
unfolding Tie
near_moved v d b p even =
    let f = near_nearest v d p in
    sym
    (nearest_unique (v +ℤ pos (b * d)) d (near v d +ℤ pos b) p
    (record { distance = rw (same v (near v d)) f.distance; tie = λ h. parity (near v d) (f.tie (sym (same v (near v d)) ∙ h)) even }))
  where
    same : (v n : ℤ) → nat_abs (pos 2 *ℤ (pos d *ℤ (n +ℤ pos b) -ℤ (v +ℤ pos (b * d)))) ≡ nat_abs (pos 2 *ℤ (pos d *ℤ n -ℤ v))
    same v n = rw (split v, split n) (simp whole (omega arith))

    parity : (n : ℤ) → odd n ≡ 0 → b % 2 ≡ 0 → odd (n +ℤ pos b) ≡ 0
    parity n = rw (split n) (simp whole (omega arith))

-- near's size is the same for either sign
near_size : (s : Bool) (a d : ℕ) → 0 < d → nat_abs (near (signed s a) d) ≡ closest a d
unfolding signed
near_size true a d p = rw (near_odd (pos a) d p, ← closest_near a d p) (nat_abs_neg (pos (closest a d)))
near_size false a d p = rw (← closest_near a d p)

-- only where a / d is above limit + 1/2: at that near is limit, which is even
pub out_of_range : (s : Bool) (a d : ℕ) → 0 < d → (limit < nat_abs (near (signed s a) d)) ↔ ((2 * limit + 1) * d < 2 * a)
out_of_range s a d p = rw (near_size s a d p) (go (closest a d) (rw (← closest_near a d p) at (near_above (pos a) (pos limit) d p)))
  where
    go : (n : ℕ) → ((pos limit <ℤ pos n) ↔ (middle (pos limit) d 0 <ℤ (pos 2 *ℤ pos a))) → (limit < n) ↔ ((2 * limit + 1) * d < 2 * a)
    go n = simp whole (λ h. (λ l. omega (arith, h.0 (omega arith)), λ l. omega (arith, h.1 (omega arith))))
