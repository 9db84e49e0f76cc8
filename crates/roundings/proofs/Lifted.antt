-- near over k·2^(j+1), k being odd, as the code has it: v with a lift is a count w, and the quotient of w, less that of the lift, is near of v.
use mathlib.Core.Path.{◌≡◌, sym, ap, ◌∙◌}
use Prim.Native.Nat.{ℕ, ◌+◌, ◌-◌, ◌*◌, ◌/◌, ◌%◌, ◌^◌, ◌≤◌, ◌<◌}
use native.Mathlib.Nat.{div-add-mod, mod-lt, div-div-eq-div-mul, mul-pos, lt_of_mul-lt-mul_left, lt_of_mul-lt-mul_right, div-lt_iff_lt-mul, le-div_iff_mul-le}
use native.Mathlib.Omega.{arith}
use lib.IntN.{ℤ, pos, negsuc, ◌+ℤ◌, ◌-ℤ◌, ◌*ℤ◌}
use lib.Pow.{pow_pos, pow-add}
use lib.Signed.{◌≤ℤ◌, ◌<ℤ◌}
use Rattle.algebra.specs.Difference.{◌⊝◌, pos_part, neg_part, split, whole}
use Rattle.rules.specs.Rounding.{near}
use Rattle.rules.specs.Laws.Rounding.{Floored, odd}
use Rattle.rules.proofs.Laws.Rounding.{floor_unique, near_even}

-- w is v with 2l times the divisor 2h, and with h less 1
abbrev pub Lifted : ℤ → ℕ → ℕ → ℕ → Type 0
Lifted v h l w = pos w ≡ v +ℤ (pos (2 * h * (2 * l)) +ℤ (pos h -ℤ pos 1))

floored : (v : ℤ) (h l w b r : ℕ) → b ≤ 1 → Lifted v h l w → 2 * h * r ≤ w + b → w + b < 2 * h * r + 2 * h → Floored (v +ℤ (pos h -ℤ pos (1 - b))) (2 * h) (pos r -ℤ pos (2 * l))
floored v h l w b r few is low high = record { low = from v is; high = below v is }
  where
    from : (v : ℤ) → Lifted v h l w → (pos (2 * h) *ℤ (pos r -ℤ pos (2 * l))) ≤ℤ (v +ℤ (pos h -ℤ pos (1 - b)))
    from v = rw (split v) (simp whole (omega arith))

    below : (v : ℤ) → Lifted v h l w → (v +ℤ (pos h -ℤ pos (1 - b))) <ℤ (pos (2 * h) *ℤ (pos r -ℤ pos (2 * l) +ℤ pos 1))
    below v = rw (split v) (simp whole (omega arith))

-- at an exact half w + 1 is the divisor times n + 2l
next : (v n : ℤ) (h l w : ℕ) → Lifted v h l w → v +ℤ pos h ≡ pos (2 * h) *ℤ n → 2 * h * (pos_part n + 2 * l) ≡ w + 1 + 2 * h * neg_part n
next v n h l w is e = go v (pos_part n) (neg_part n) is (e ∙ ap (λ z. pos (2 * h) *ℤ z) (split n))
  where
    go : (v : ℤ) (a b : ℕ) → Lifted v h l w → v +ℤ pos h ≡ pos (2 * h) *ℤ (a ⊝ b) → 2 * h * (a + 2 * l) ≡ w + 1 + 2 * h * b
    go v a b = rw (split v) (simp whole (omega arith))

-- which has n's lowest digit
same_digit : (n : ℤ) (m l : ℕ) → m + neg_part n ≡ pos_part n + 2 * l → odd n ≡ m % 2
unfolding pos_part neg_part
same_digit (pos a) m l e = omega arith
same_digit (negsuc a) m l e = omega arith

module _ (v : ℤ) (k j l w : ℕ) (some : 0 < k) (parity : (n : ℕ) → k * n % 2 ≡ n % 2) (is : Lifted v (k * 2 ^ j) l w) where
  -- half of the divisor, and the power of two that w is divided by first
  abbrev h : ℕ
  h = k * 2 ^ j

  abbrev p : ℕ
  p = 2 ^ (j + 1)

  abbrev digit : ℕ
  digit = w / p % 2

  h_pos : 0 < h
  h_pos = mul-pos some (pow_pos j)

  twice : p * k ≡ 2 * h
  twice = ap (λ i. i * k) (pow-add 2 j 1) ∙ omega arith

  quotient : (c : ℕ) → (c + 1) * p ≡ w + 1 → w / p ≡ c
  quotient c e =
      let some-p : 0 < p = pow_pos (j + 1) in
      let low : c ≤ w / p = (le-div_iff_mul-le some-p).1 (omega arith) in
      let high : w / p < c + 1 = (div-lt_iff_lt-mul some-p).1 (omega arith) in
      omega arith

  digit_at : (m : ℕ) → 2 * h * m ≡ w + 1 → 1 - digit ≡ m % 2
  digit_at m e =
      let all : k * m * p ≡ w + 1 = omega arith ∙ ap (λ i. i * m) twice ∙ e in
      let least : 0 < k * m = lt_of_mul-lt-mul_right p {m = 0} (omega (arith, all)) in
      let c-is : k * m - 1 + 1 ≡ k * m = omega arith in
      omega (arith, quotient (k * m - 1) (ap (λ i. i * p) c-is ∙ all), parity m)

  at_half : (n : ℤ) → v +ℤ pos h ≡ pos (2 * h) *ℤ n → 1 - digit ≡ odd n
  at_half n e =
      let sum = next v n h l w is e in
      let less : neg_part n < pos_part n + 2 * l = lt_of_mul-lt-mul_left (2 * h) (omega (arith, sum)) in
      let m = pos_part n + 2 * l - neg_part n in
      let m_is : m + neg_part n ≡ pos_part n + 2 * l = omega arith in
      digit_at m (omega (arith, sum, ap (λ i. 2 * h * i) m_is)) ∙ sym (same_digit n m l m_is)

  pub lifted_near : pos ((w + digit) / p / k) -ℤ pos (2 * l) ≡ near v (2 * h)
  lifted_near =
      let x = w + digit in
      let r-is : x / p / k ≡ x / (2 * h) = div-div-eq-div-mul x p k ∙ ap (λ d. x / d) twice in
      let low : 2 * h * (x / p / k) ≤ x = rw r-is (omega (arith, div-add-mod x (2 * h))) in
      let high : x < 2 * h * (x / p / k) + 2 * h = rw r-is (omega (arith, div-add-mod x (2 * h), mod-lt x {m = 2 * h} (omega (arith, h_pos)))) in
      floor_unique (v +ℤ (pos h -ℤ pos (1 - digit))) (2 * h) _ (omega (arith, h_pos)) (floored v h l w digit (x / p / k) (omega arith) is low high)
      ∙ sym (near_even v h (1 - digit) h_pos (omega arith) at_half)
