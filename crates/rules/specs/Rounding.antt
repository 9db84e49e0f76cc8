-- Rounding, as document 01 has it under "Grid, heights and rounding" and document 02's job 9 changes it. Definitions only.
use Rattle.std.specs.Prelude.{ℕ, ◌*◌, ◌/◌, ◌%◌, Bool, cond, eqb, ℤ, pos, negsuc, neg_ℤ, nat_abs, ◌+ℤ◌, ◌*ℤ◌}

-- the largest whole number that is at most v / d
unfoldable pub floor : ℤ → ℕ → ℤ
floor (pos a) d = pos (a / d)
floor (negsuc a) d = negsuc (a / d)

-- the nearest whole number to v / d, an exact half going to the larger, and going to the smaller
unfoldable pub near_up : ℤ → ℕ → ℤ
near_up v d = floor (pos 2 *ℤ v +ℤ pos d) (2 * d)

unfoldable pub near_down : ℤ → ℕ → ℤ
near_down v d = neg_ℤ (near_up (neg_ℤ v) d)

unfoldable pub even : ℤ → Bool
even n = eqb (nat_abs n % 2) 0

-- "near(v/d) is the nearest whole number", and of document 02 "Let near take an exact half to the even neighbour": near_up and
-- near_down differ at an exact half alone, by 1, and near is then the even one of them
unfoldable pub near : ℤ → ℕ → ℤ
near v d = cond (even (near_up v d)) (near_up v d) (near_down v d)
