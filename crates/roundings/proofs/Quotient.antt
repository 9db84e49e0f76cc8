-- A floor is no larger in size than what it is of.
use Prim.Native.Nat.{ℕ, ◌≤◌, suc-le-suc}
use native.Mathlib.Nat.{div-le_self, le_trans}
use lib.IntN.{ℤ, pos, negsuc, nat_abs}
use Rattle.rules.specs.Rounding.{floor}

pub floor_size : (v : ℤ) (d : ℕ) {B : ℕ} → nat_abs v ≤ B → nat_abs (floor v d) ≤ B
unfolding floor
floor_size (pos a) d h = le_trans (div-le_self a d) h
floor_size (negsuc a) d h = le_trans (suc-le-suc (div-le_self a d)) h
