-- What a test of two i64 values tells of the numbers that they are.
use Rattle.std.specs.Prelude.{◌≡◌, true, false, not, ◌^◌, ◌<◌, T, ℤ, ◌<ℤ◌, ◌≤ℤ◌}
use Rattle.std.proofs.Common.{sym, subst, to_z, of_z}
use Rattle.std.specs.Int.Signed.{mag, lt_z, lt_z_yes, lt_z_no}
use Rattle.std.specs.Int.{w64}
use Rattle.std.proofs.lemmas.Int.{to_z-of_z}

-- the bits of a number that fits, read back
pub plain : (z : ℤ) → mag z < 2 ^ 63 → to_z w64 (of_z w64 z) ≡ z
plain z fits = to_z-of_z w64 z (record { sfits = fits })

-- x and y are the numbers z and v
pub less : {x y z v : ℤ} → x ≡ z → y ≡ v → lt_z x y ≡ true → z <ℤ v
less e g t = rw (← e, ← g) (lt_z_yes (subst T (sym t) tt))

pub not_less : {x y z v : ℤ} → x ≡ z → y ≡ v → lt_z x y ≡ false → v ≤ℤ z
not_less e g t = rw (← e, ← g) (lt_z_no (subst (λ b. T (not b)) (sym t) tt))
