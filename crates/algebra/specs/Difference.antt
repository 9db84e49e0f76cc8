-- Linear facts over ℤ. Every whole number is a shut difference p ⊝ q of two naturals; the set `whole` moves a statement about
-- such differences over to ℕ, where `omega arith` proves it. The examples at the end show the use.
use Rattle.std.specs.Prelude.{◌≡◌, ◌↔◌, Bool, true, false, not, cond, ℕ, zero, suc, ◌+◌, ◌*◌, ◌-◌, ◌≤◌, ◌<◌, T, ltb, ℤ, pos, negsuc, neg_ℤ, nat_abs, ◌+ℤ◌, ◌-ℤ◌, ◌*ℤ◌, ◌≤ℤ◌, ◌<ℤ◌}
use Rattle.std.proofs.Common.{ap, ap₂, ◌∙◌, arith, leb→le, le→leb, ltb→lt, lt→ltb, nltb→le}
use Rattle.std.proofs.Math.IntN.{sub_ℕ}

infixl 60 ◌⊝◌
pub ◌⊝◌ : ℕ → ℕ → ℤ
p ⊝ q = sub_ℕ p q

-- z is the difference of p and q
data Is (p q : ℕ) : ℤ → Type 0 where
  above : (n : ℕ) → p ≡ n + q → Is p q (pos n)
  below : (n : ℕ) → q ≡ suc n + p → Is p q (negsuc n)

subℕ_is : (p q : ℕ) → Is p q (sub_ℕ p q)
subℕ_is p q = go (ltb p q) (λ t. ltb→lt p q t) (λ t. nltb→le p q t)
  where
    go : (b : Bool) → (T b → p < q) → (T (not b) → q ≤ p) → Is p q (cond b (negsuc (q - suc p)) (pos (p - q)))
    go true f g = let h : p < q = f tt in below (q - suc p) (omega arith)
    go false f g = let h : q ≤ p = g tt in above (p - q) (omega arith)

shift : {p q r s : ℕ} {z : ℤ} → Is p q z → p + s ≡ r + q → Is r s z
shift (above n e) h = above n (omega arith)
shift (below n e) h = below n (omega arith)

one_value : {p q : ℕ} {y z : ℤ} → Is p q y → Is p q z → y ≡ z
one_value (above m e) (above n f) = ap pos (omega arith)
one_value (above m e) (below n f) = absurd (omega arith)
one_value (below m e) (above n f) = absurd (omega arith)
one_value (below m e) (below n f) = ap negsuc (omega arith)

itself : (p q : ℕ) → Is p q (p ⊝ q)
unfolding ◌⊝◌
itself p q = subℕ_is p q

to : {p q : ℕ} {z : ℤ} → Is p q z → z ≡ p ⊝ q
to {p} {q} i = one_value i (itself p q)

-- ---- the rules

pub pos-⊝ : (n : ℕ) → pos n ≡ n ⊝ 0
pos-⊝ n = to (above n (omega arith))

pub negsuc-⊝ : (n : ℕ) → negsuc n ≡ 0 ⊝ suc n
negsuc-⊝ n = to (below n (omega arith))

neg_is : {p q : ℕ} {z : ℤ} → Is p q z → Is q p (neg_ℤ z)
neg_is (above zero e) = above zero (omega arith)
neg_is (above (suc n) e) = below n (omega arith)
neg_is (below n e) = above (suc n) (omega arith)

pub neg-⊝ : (p q : ℕ) → neg_ℤ (p ⊝ q) ≡ q ⊝ p
neg-⊝ p q = to (neg_is (itself p q))

-- neg_ℤ at `pos n` waits on n, where the rule before does not see it
pub neg_pos-⊝ : (n : ℕ) → neg_ℤ (pos n) ≡ 0 ⊝ n
neg_pos-⊝ n = to (neg_is (above n (omega arith)))

-- what a sum of two signs computes to, once its two cases are rewritten
pub subℕ-⊝ : (p q : ℕ) → cond (ltb p q) (0 ⊝ suc (q - suc p)) ((p - q) ⊝ 0) ≡ p ⊝ q
subℕ-⊝ p q = rw (← negsuc-⊝ (q - suc p), ← pos-⊝ (p - q)) (to (subℕ_is p q))

add_is : {p q r s : ℕ} {y z : ℤ} → Is p q y → Is r s z → Is (p + r) (q + s) (y +ℤ z)
add_is (above m e) (above n f) = above (m + n) (omega arith)
add_is (above m e) (below n f) = shift (subℕ_is m (suc n)) (omega arith)
add_is (below m e) (above n f) = shift (subℕ_is n (suc m)) (omega arith)
add_is (below m e) (below n f) = below (suc (m + n)) (omega arith)

pub add-⊝ : (p q r s : ℕ) → p ⊝ q +ℤ r ⊝ s ≡ (p + r) ⊝ (q + s)
add-⊝ p q r s = to (add_is (itself p q) (itself r s))

mul_is : {p q r s : ℕ} {y z : ℤ} → Is p q y → Is r s z → Is (p * r + q * s) (p * s + q * r) (y *ℤ z)
mul_is (above m e) (above n f) = rw (e, f) (above (m * n) (omega arith))
mul_is (above m e) (below n f) = rw (e, f) (neg_is (above (m * suc n) (omega arith)))
mul_is (below m e) (above n f) = rw (e, f) (neg_is (above (suc m * n) (omega arith)))
mul_is (below m e) (below n f) = rw (e, f) (above (suc m * suc n) (omega arith))

pub mul-⊝ : (p q r s : ℕ) → (p ⊝ q) *ℤ (r ⊝ s) ≡ (p * r + q * s) ⊝ (p * s + q * r)
mul-⊝ p q r s = to (mul_is (itself p q) (itself r s))

nat_abs_is : {p q : ℕ} {z : ℤ} → Is p q z → nat_abs z ≡ (p - q) + (q - p)
nat_abs_is (above n e) = omega arith
nat_abs_is (below n e) = omega arith

pub nat_abs-⊝ : (p q : ℕ) → nat_abs (p ⊝ q) ≡ (p - q) + (q - p)
nat_abs-⊝ p q = nat_abs_is (itself p q)

le_is : {p q r s : ℕ} {y z : ℤ} → Is p q y → Is r s z → (y ≤ℤ z) ↔ (p + s ≤ r + q)
le_is (above m e) (above n f) = omega (arith, leb→le, le→leb)
le_is (above m e) (below n f) = (λ h. absurd h.le, λ h. absurd (omega arith))
le_is (below m e) (above n f) = omega arith
le_is (below m e) (below n f) = omega (arith, leb→le, le→leb)

pub le-⊝ : (p q r s : ℕ) → (p ⊝ q ≤ℤ r ⊝ s) ↔ (p + s ≤ r + q)
le-⊝ p q r s = le_is (itself p q) (itself r s)

lt_is : {p q r s : ℕ} {y z : ℤ} → Is p q y → Is r s z → (y <ℤ z) ↔ (p + s < r + q)
lt_is (above m e) (above n f) = omega (arith, ltb→lt, lt→ltb)
lt_is (above m e) (below n f) = (λ h. absurd h.lt, λ h. absurd (omega arith))
lt_is (below m e) (above n f) = omega arith
lt_is (below m e) (below n f) = omega (arith, ltb→lt, lt→ltb)

pub lt-⊝ : (p q r s : ℕ) → (p ⊝ q <ℤ r ⊝ s) ↔ (p + s < r + q)
lt-⊝ p q r s = lt_is (itself p q) (itself r s)

same_is : {p q r s : ℕ} {z : ℤ} → Is p q z → Is r s z → p + s ≡ r + q
same_is (above m e) (above n f) = omega arith
same_is (below m e) (below n f) = omega arith

pub eq-⊝ : (p q r s : ℕ) → (p ⊝ q ≡ r ⊝ s) ↔ (p + s ≡ r + q)
eq-⊝ p q r s = (λ e. same_is (itself p q) (rw e (itself r s)), λ h. to (shift (itself p q) h))

pub ruleset whole = (pos-⊝, negsuc-⊝, neg-⊝, neg_pos-⊝, subℕ-⊝, add-⊝, mul-⊝, nat_abs-⊝, le-⊝, lt-⊝, eq-⊝)

-- ---- every whole number is a difference

-- z where it is positive, else 0; and its size where it is negative, else 0
unfoldable pub pos_part : ℤ → ℕ
pos_part (pos n) = n
pos_part (negsuc n) = 0

unfoldable pub neg_part : ℤ → ℕ
neg_part (pos n) = 0
neg_part (negsuc n) = suc n

pub split : (z : ℤ) → z ≡ pos_part z ⊝ neg_part z
unfolding pos_part neg_part
split (pos n) = pos-⊝ n
split (negsuc n) = negsuc-⊝ n

-- the positive part of a difference
pos_part_is : {p q : ℕ} {z : ℤ} → Is p q z → pos_part z ≡ p - q
unfolding pos_part
pos_part_is (above n e) = omega arith
pos_part_is (below n e) = omega arith

pub pos_part-⊝ : (p q : ℕ) → pos_part (p ⊝ q) ≡ p - q
pos_part-⊝ p q = pos_part_is (itself p q)

pub pos_part_minus : (a b : ℤ) → pos_part (a -ℤ b) ≡ (pos_part a + neg_part b) - (neg_part a + pos_part b)
pos_part_minus a b =
    ap pos_part
    (ap₂ ◌-ℤ◌ (split a) (split b)
    ∙ ap (λ z. pos_part a ⊝ neg_part a +ℤ z) (neg-⊝ (pos_part b) (neg_part b))
    ∙ add-⊝ (pos_part a) (neg_part a) (neg_part b) (pos_part b))
    ∙ pos_part-⊝ (pos_part a + neg_part b) (neg_part a + pos_part b)

-- ---- the use: split each unknown, rewrite by `whole`, call omega. The hypotheses stand in the goal, where `simp` reaches them; a
-- fact about larger terms is stated over variables first. A product with a variable factor is multiplied out, each monomial an unknown

between : (a b : ℤ) → a ≤ℤ b → b <ℤ (a +ℤ pos 1) → a ≡ b
between a b = rw (split a, split b) (simp whole (omega arith))

size_to_order : (a b : ℤ) (n : ℕ) → nat_abs (a -ℤ b) ≤ n → (a -ℤ pos n) ≤ℤ b
size_to_order a b n = rw (split a, split b) (simp whole (omega arith))

factor : (d : ℕ) (a b : ℤ) → pos d *ℤ (a -ℤ b) +ℤ pos 3 *ℤ b ≡ pos d *ℤ a -ℤ (pos d -ℤ pos 3) *ℤ b
factor d a b = rw (split a, split b) (simp whole (omega arith))
