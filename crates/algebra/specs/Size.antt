-- Size and order of whole numbers: what error bounds and the rounding laws use. nat_abs (pos n) computes to n and needs no law.
use Rattle.std.specs.Prelude.{◌≡◌, refl, ◌↔◌, ◌⊎◌, Bool, true, false, not, ℕ, zero, suc, ◌+◌, ◌-◌, ◌*◌, ◌/◌, ◌%◌, ◌≤◌, ◌<◌, ℤ, pos, negsuc, neg_ℤ, nat_abs, ◌+ℤ◌, ◌-ℤ◌, ◌*ℤ◌, T, ◌≤ℤ◌, ◌<ℤ◌}
use Rattle.std.proofs.Common.{sym, ap, ◌∙◌, inl, inr, add_comm, add-mul, mul-le-mul_left, add-sub_of_le, div-add-mod', le-div_iff_mul-le, div-lt_iff_lt-mul, arith}
use Rattle.std.proofs.Math.Nat.{lt_of_mul-lt-mul_left, add-mul-div_right}
use Rattle.std.proofs.Math.Decide.{dec_lt}
use Rattle.std.specs.Int.Signed.{lt_z, lt_z_yes, lt_z_no}
use Rattle.algebra.specs.Difference.{split, whole}

-- ---- size

pub nat_abs_sum : (a b : ℤ) → nat_abs (a +ℤ b) ≤ nat_abs a + nat_abs b
nat_abs_sum a b = rw (split a, split b) (simp whole (omega arith))

pub nat_abs_neg : (a : ℤ) → nat_abs (neg_ℤ a) ≡ nat_abs a
nat_abs_neg (pos zero) = refl
nat_abs_neg (pos (suc n)) = refl
nat_abs_neg (negsuc n) = refl

pub nat_abs_product : (a b : ℤ) → nat_abs (a *ℤ b) ≡ nat_abs a * nat_abs b
nat_abs_product (pos a) (pos b) = refl
nat_abs_product (pos a) (negsuc b) = nat_abs_neg (pos (a * suc b))
nat_abs_product (negsuc a) (pos b) = nat_abs_neg (pos (suc a * b))
nat_abs_product (negsuc a) (negsuc b) = refl

pub same_of_nat_abs : (a b : ℤ) → nat_abs (a -ℤ b) ≡ 0 → a ≡ b
same_of_nat_abs a b = rw (split a, split b) (simp whole (omega arith))

-- a bound on the size is a bound on both sides
pub nat_abs_range : (z : ℤ) (B : ℕ) → (nat_abs z ≤ B) ↔ ((neg_ℤ (pos B) ≤ℤ z) × (z ≤ℤ pos B))
nat_abs_range z B = rw (split z) (simp whole (omega arith))

-- ---- order

pub below_range : (z : ℤ) (B : ℕ) → z <ℤ neg_ℤ (pos B) → B < nat_abs z
below_range z B = rw (split z) (simp whole (omega arith))

pub above_range : (z : ℤ) (B : ℕ) → pos B <ℤ z → B < nat_abs z
above_range z B = rw (split z) (simp whole (omega arith))

pub ≤ℤ_trans : {a b c : ℤ} → a ≤ℤ b → b ≤ℤ c → a ≤ℤ c
≤ℤ_trans {a} {b} {c} = rw (split a, split b, split c) (simp whole (omega arith))

pub ≤ℤ-<ℤ_trans : {a b c : ℤ} → a ≤ℤ b → b <ℤ c → a <ℤ c
≤ℤ-<ℤ_trans {a} {b} {c} = rw (split a, split b, split c) (simp whole (omega arith))

pub ≤ℤ_antisym : {a b : ℤ} → a ≤ℤ b → b ≤ℤ a → a ≡ b
≤ℤ_antisym {a} {b} = rw (split a, split b) (simp whole (omega arith))

pub <ℤ_suc : (a b : ℤ) → (a <ℤ (b +ℤ pos 1)) ↔ (a ≤ℤ b)
<ℤ_suc a b = rw (split a, split b) (simp whole (omega arith))

pub suc-≤ℤ : (a b : ℤ) → ((a +ℤ pos 1) ≤ℤ b) ↔ (a <ℤ b)
suc-≤ℤ a b = rw (split a, split b) (simp whole (omega arith))

pub ≤ℤ_sum : {a b c d : ℤ} → a ≤ℤ b → c ≤ℤ d → (a +ℤ c) ≤ℤ (b +ℤ d)
≤ℤ_sum {a} {b} {c} {d} = rw (split a, split b, split c, split d) (simp whole (omega arith))

pub ≤ℤ_or-<ℤ : (a b : ℤ) → (a ≤ℤ b) ⊎ (b <ℤ a)
≤ℤ_or-<ℤ a b = go (lt_z b a) lt_z_yes lt_z_no
  where
    go : (t : Bool) → (T t → b <ℤ a) → (T (not t) → a ≤ℤ b) → (a ≤ℤ b) ⊎ (b <ℤ a)
    go true f g = inr (f tt)
    go false f g = inl (g tt)

pub ≡_or-<ℤ : {a b : ℤ} → a ≤ℤ b → (a ≡ b) ⊎ (a <ℤ b)
≡_or-<ℤ {a} {b} h = elim (≤ℤ_or-<ℤ b a) [ inl k ↦ inl (≤ℤ_antisym h k) | inr k ↦ inr k ]

-- ---- multiplication by a number that is not negative

pub ≤ℤ_scale : (d : ℕ) {a b : ℤ} → a ≤ℤ b → (pos d *ℤ a) ≤ℤ (pos d *ℤ b)
≤ℤ_scale d {a} {b} = rw (split a, split b) (simp whole (λ h. omega (arith, mul-le-mul_left d h)))

pub ≤ℤ_product : (w : ℤ) {a b : ℤ} → pos 0 ≤ℤ w → a ≤ℤ b → (w *ℤ a) ≤ℤ (w *ℤ b)
≤ℤ_product (pos d) h k = ≤ℤ_scale d k
≤ℤ_product (negsuc d) h k = absurd h.le

pub <ℤ_cancel : (d : ℕ) (a b : ℤ) → (pos d *ℤ a) <ℤ (pos d *ℤ b) → a <ℤ b
<ℤ_cancel d a b = rw (split a, split b) (simp whole (λ h. lt_of_mul-lt-mul_left d (omega arith)))

-- twice a product is at most the sum of the squares
pub twice_product : (a b : ℕ) → 2 * (a * b) ≤ a * a + b * b
twice_product a b = go (dec_lt a b)
  where
    go : Dec (a < b) → 2 * (a * b) ≤ a * a + b * b
    go (yes l) = let e : a + (b - a) ≡ b = add-sub_of_le (omega arith) in rw (← e) (omega arith)
    go (no g) = let e : b + (a - b) ≡ a = add-sub_of_le (omega arith) in rw (← e) (omega arith)

-- ---- floors of products

-- a larger number's is no less
pub div_rises : {a b : ℕ} (d : ℕ) → 0 < d → a ≤ b → a / d ≤ b / d
div_rises {a} {b} d h l = (le-div_iff_mul-le h).1 (omega (arith, div-add-mod' a d))

-- of a · b over d, with no product larger than a / d · b or d · b
pub product_div : (a b d : ℕ) → 0 < d → a * b / d ≡ a / d * b + a % d * b / d
product_div a b d h =
    ap (λ v. v * b / d) (sym (div-add-mod' a d))
    ∙ ap (λ v. v / d) (add-mul (a / d * d) (a % d) b ∙ omega arith)
    ∙ add-mul-div_right (a % d * b) (a / d * b) h
    ∙ add_comm (a % d * b / d) (a / d * b)

-- ---- the same, rounded up

pub ceil_le : (a d v : ℕ) → 0 < d → ((a + (d - 1)) / d ≤ v) ↔ (a ≤ v * d)
ceil_le a d v h =
    let under = div-lt_iff_lt-mul {x = a + (d - 1)} {y = suc v} h in
    (λ l. let m = under.0 (omega arith) in omega arith, λ l. let m = under.1 (omega arith) in omega arith)

pub product_ceil : (a b d : ℕ) → 0 < d → (a * b + (d - 1)) / d ≡ a / d * b + (a % d * b + (d - 1)) / d
product_ceil a b d h =
    ap (λ v. (v * b + (d - 1)) / d) (sym (div-add-mod' a d))
    ∙ ap (λ v. v / d) (ap (λ v. v + (d - 1)) (add-mul (a / d * d) (a % d) b) ∙ omega arith)
    ∙ add-mul-div_right (a % d * b + (d - 1)) (a / d * b) h
    ∙ add_comm ((a % d * b + (d - 1)) / d) (a / d * b)
