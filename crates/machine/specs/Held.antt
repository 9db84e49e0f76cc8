-- What an i64 expression holds. The machine computes on bits, and reads them back as `to_z w64 (of_z w64 x)` after each operation.
-- `Held x z B` says that the machine's x is the number z, of size at most B; each operation's result is held where the bound leaves room.
use Rattle.std.specs.Prelude.{◌≡◌, refl, ℕ, suc, ◌+◌, ◌*◌, ◌/◌, ◌%◌, ◌^◌, ◌≤◌, ◌<◌, T, leb, ltb, ℤ, pos, negsuc, nat_abs, neg_ℤ, ◌+ℤ◌, ◌-ℤ◌, ◌*ℤ◌}
use Rattle.std.proofs.Common.{sym, ap, ap₂, ◌∙◌, subst, suc-le-suc, le_trans, le_refl, div-le_self, mod-eq_of_lt, mul-le-mul, arith, leb→le, ltb→lt, SFits, to_z, of_z}
use Rattle.std.specs.Int.Signed.{mag, quot_z, shr_z}
use Rattle.std.specs.Int.{w64}
use Rattle.std.proofs.lemmas.Int.{to_z-of_z, to_z_pos}
use Rattle.algebra.specs.Size.{nat_abs_sum, nat_abs_product, nat_abs_neg}

pub record Held (x z : ℤ) (B : ℕ) : Type 0 where
  pub is : x ≡ z
  pub size : nat_abs z ≤ B

-- a machine expression with the number that it holds: what a declaration names, so that its type need not spell the expression
pub record Number : Type 0 where
  pub code : ℤ
  pub means : ℤ
  pub bound : ℕ
  pub held : Held code means bound

abbrev pub number : {x z : ℤ} {B : ℕ} → Held x z B → Number
number {x} {z} {B} h = record { code = x; means = z; bound = B; held = h }

mag_size : (z : ℤ) → mag z ≤ nat_abs z
mag_size (pos n) = le_refl n
mag_size (negsuc n) = omega arith

-- a number of size at most B below 2^63 fits
pub size_fits : (z : ℤ) (B : ℕ) → nat_abs z ≤ B → T (ltb B (2 ^ 63)) → SFits w64 z
size_fits z B h t = let l : B < 2 ^ 63 = ltb→lt B (2 ^ 63) t in record { sfits = omega (arith, mag_size z) }

-- ---- how a held number is made

-- a number itself
pub itself : (z : ℤ) (B : ℕ) → nat_abs z ≤ B → Held z z B
itself z B h = record { is = refl; size = h }

-- a literal, or any number whose size is what it computes to
pub literal : (z : ℤ) → Held z z (nat_abs z)
literal z = record { is = refl; size = le_refl (nat_abs z) }

-- a count that was cast
pub cast : (n B : ℕ) → n ≤ B → T (ltb B (2 ^ 63)) → Held (to_z w64 n) (pos n) B
cast n B h t = record { is = to_z_pos w64 n (le_trans (suc-le-suc h) (ltb→lt B (2 ^ 63) t)); size = h }

-- a count that was shifted to the left, and of which nothing is lost
pub cast_low : (n B : ℕ) → n ≤ B → T (ltb B (2 ^ 63)) → Held (to_z w64 (n % 2 ^ 64)) (pos n) B
cast_low n B h t =
    let l : B < 2 ^ 63 = ltb→lt B (2 ^ 63) t in
    rw (mod-eq_of_lt {n = n} {m = 2 ^ 64} (omega arith)) (cast n B h t)

-- the bits, read back
pub read : {x z : ℤ} {B : ℕ} → T (ltb B (2 ^ 63)) → Held x z B → Held (to_z w64 (of_z w64 x)) z B
read {x} {z} {B} t h = record { is = ap (λ v. to_z w64 (of_z w64 v)) h.is ∙ to_z-of_z w64 z (size_fits z B h.size t); size = h.size }

-- what a call returned, read back: its range comes with it
pub returned : {x z : ℤ} → mag x < 2 ^ 63 → x ≡ z → to_z w64 (of_z w64 x) ≡ z
returned {x} h e = to_z-of_z w64 x (record { sfits = h }) ∙ e

pub plus : {x z y v : ℤ} {B C : ℕ} → Held x z B → Held y v C → Held (x +ℤ y) (z +ℤ v) (B + C)
plus {x} {z} {y} {v} {B} {C} h k = record { is = ap₂ ◌+ℤ◌ h.is k.is; size = omega (arith, nat_abs_sum z v, h.size, k.size) }

pub minus : {x z y v : ℤ} {B C : ℕ} → Held x z B → Held y v C → Held (x -ℤ y) (z -ℤ v) (B + C)
minus {x} {z} {y} {v} {B} {C} h k =
    record { is = ap₂ ◌-ℤ◌ h.is k.is; size = omega (arith, nat_abs_sum z (neg_ℤ v), nat_abs_neg v, h.size, k.size) }

pub times : {x z y v : ℤ} {B C : ℕ} → Held x z B → Held y v C → Held (x *ℤ y) (z *ℤ v) (B * C)
times {x} {z} {y} {v} {B} {C} h k =
    record { is = ap₂ ◌*ℤ◌ h.is k.is; size = subst (λ n. n ≤ B * C) (sym (nat_abs_product z v)) (mul-le-mul h.size k.size) }

-- a quotient and a shift to the right are no larger than what they divide
pub divided : {x z y : ℤ} {B d C : ℕ} → Held x z B → Held y (pos d) C → Held (quot_z x y) (quot_z z (pos d)) B
divided {x} {z} {d = d} h k = record { is = ap₂ quot_z h.is k.is; size = le_trans (smaller z) h.size }
  where
    smaller : (z : ℤ) → nat_abs (quot_z z (pos d)) ≤ nat_abs z
    smaller (pos a) = div-le_self a d
    smaller (negsuc a) = rw (nat_abs_neg (pos (suc a / d))) (div-le_self (suc a) d)

pub shifted : {x z : ℤ} {B : ℕ} (m : ℕ) → Held x z B → Held (shr_z x m) (shr_z z m) B
shifted {x} {z} m h = record { is = ap (λ v. shr_z v m) h.is; size = le_trans (smaller z) h.size }
  where
    smaller : (z : ℤ) → nat_abs (shr_z z m) ≤ nat_abs z
    smaller (pos a) = div-le_self a m
    smaller (negsuc a) = suc-le-suc (div-le_self a m)

-- a smaller bound that is known otherwise
pub within : {x z : ℤ} {B : ℕ} (C : ℕ) → nat_abs z ≤ C → Held x z B → Held x z C
within C s h = record { is = h.is; size = s }

-- a larger bound, as a numeral for one that is none
pub below : {x z : ℤ} {B : ℕ} (C : ℕ) → B ≤ C → Held x z B → Held x z C
below C l h = within C (le_trans h.size l) h

-- the bits, read back, where the bound is kept
pub read_below : {x z : ℤ} {B : ℕ} (C : ℕ) → T (ltb C (2 ^ 63)) → B ≤ C → Held x z B → Held (to_z w64 (of_z w64 x)) z B
read_below {B = B} C t l h = within B h.size (read t (below C l h))

-- ---- what the machine asks

-- an operation's result fits
pub fits : {x z : ℤ} {B : ℕ} → T (ltb B (2 ^ 63)) → Held x z B → SFits w64 x
fits {x} {z} {B} t h = subst (SFits w64) (sym h.is) (size_fits z B h.size t)

-- a call's argument is no larger than the callee's bound
pub small : {x z : ℤ} {B : ℕ} (C : ℕ) → T (leb B C) → Held x z B → nat_abs x ≤ C
small {x} {z} {B} C t h = subst (λ v. nat_abs v ≤ C) (sym h.is) (le_trans h.size (leb→le B C t))
