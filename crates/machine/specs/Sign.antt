-- An i64 by its sign, as code casts it to a u64: from 0 on z itself, below 0 the number -1 - z.
use Rattle.std.specs.Prelude.{◌≡◌, refl, true, false, ◌^◌, ◌<◌, T, ℤ, pos, negsuc, nat_abs, ◌-ℤ◌}
use Rattle.std.proofs.Common.{sym, ◌∙◌, subst, arith, SFits, to_z, of_z}
use Rattle.std.proofs.Math.Dec.{leb-zero}
use Rattle.std.specs.Int.Signed.{mag, le_z, non_neg}
use Rattle.std.specs.Int.{w64}
use Rattle.std.proofs.lemmas.Int.{to_z-of_z}
use Rattle.algebra.specs.Difference.{whole}
use Rattle.machine.specs.Tests.{plain}

-- from 0 on: x, the machine's z, is cast
pub record FromZero (z x : ℤ) : Type 0 where
  pub sign : T (non_neg x)
  pub fits : nat_abs x < 2 ^ 63
  pub is : z ≡ pos (nat_abs x)

-- below 0: y, the machine's -1 - z, is cast
pub record BelowZero (z y : ℤ) : Type 0 where
  pub fits : SFits w64 y
  pub cast : to_z w64 (of_z w64 y) ≡ pos (mag z)
  pub is : z ≡ negsuc (mag z)

from : (z : ℤ) → mag z < 2 ^ 63 → le_z (pos 0) z ≡ true → FromZero z z
from (pos n) h t = record { sign = tt; fits = h; is = refl }
from (negsuc n) h t = absurd (subst T (sym t) tt)

below : (z : ℤ) → mag z < 2 ^ 63 → le_z (pos 0) z ≡ false → BelowZero z (negsuc 0 -ℤ z)
below (pos n) h t = absurd (subst T (sym (leb-zero n) ∙ t) tt)
below (negsuc n) h t = record { fits = rw e small; cast = rw e (to_z-of_z w64 (pos n) small); is = refl }
  where
    e : negsuc 0 -ℤ negsuc n ≡ pos n
    e = simp whole (omega arith)

    small : SFits w64 (pos n)
    small = record { sfits = h }

-- what the test 0 <= z tells, of the bits that the machine reads
abbrev pub Signs : ℤ → ℤ → Type 0
Signs z x = (le_z (pos 0) x ≡ true → FromZero z x) × (le_z (pos 0) x ≡ false → BelowZero z (negsuc 0 -ℤ x))

pub signs : (z : ℤ) → mag z < 2 ^ 63 → Signs z (to_z w64 (of_z w64 z))
signs z h = rw (plain z h) (from z h, below z h)
