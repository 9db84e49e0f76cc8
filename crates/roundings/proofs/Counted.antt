-- The count that both roundings by a shift make of v: v + c + k·2^j, where c is 1 less than the lift, so that it is not below 0. Its quotient, less the
-- lift's, is near of v over k·2^(j+1).
use mathlib.Core.Path.{◌≡◌, sym, ap, ◌∙◌}
use Prim.Native.Nat.{ℕ, ◌+◌, ◌-◌, ◌*◌, ◌/◌, ◌%◌, ◌^◌, ◌≤◌, ◌<◌}
use native.Mathlib.Nat.{mul-le-mul, mul-le-mul_left, div-add-mod}
use native.Mathlib.Omega.{arith}
use lib.IntN.{ℤ, pos, nat_abs, ◌+ℤ◌, ◌-ℤ◌}
use lib.Pow.{pow-add, pow_mono}
use Rattle.algebra.specs.Difference.{split, whole}
use Rattle.machine.specs.Held.{Number, number, itself, cast_low, read, plus}
use Rattle.rules.specs.Rounding.{near}
use Rattle.roundings.proofs.Lifted.{Lifted, lifted_near}

pub record Counted (v : ℤ) (k j c : ℕ) : Type 0 where
  pub size : nat_abs v ≤ 3_300_000_000_000_000_000
  pub few : k ≤ 3
  pub low : j ≤ 27
  pub least : 3_400_000_000_000_000_000 ≤ c
  pub most : c ≤ 4_611_686_018_427_387_903

module _ {v : ℤ} {k j c : ℕ} (r : Counted v k j c) where
  -- ---- the code's expressions

  abbrev half : ℕ
  half = k * 2 ^ j

  abbrev pub lift : Number
  lift = number (plus (itself (pos c) 4_611_686_018_427_387_903 r.most) (cast_low half (3 * 2 ^ 27) (mul-le-mul r.few (pow_mono r.low)) tt))

  abbrev pub sum : Number
  sum = number (plus (read tt (itself v 3_300_000_000_000_000_000 r.size)) (read tt lift.held))

  abbrev pub count : Number
  count = number (read tt sum.held)

  -- ---- what is counted

  count_is : count.code ≡ pos (nat_abs count.code)
  count_is = rw count.held.is (go v half r.size r.least)
    where
      go : (v : ℤ) (h : ℕ) → nat_abs v ≤ 3_300_000_000_000_000_000 → 3_400_000_000_000_000_000 ≤ c → v +ℤ (pos c +ℤ pos h) ≡ pos (nat_abs (v +ℤ (pos c +ℤ pos h)))
      go v h = rw (split v) (simp whole (omega arith))

  pub count_size : nat_abs count.code ≤ 7_911_686_018_830_041_087
  count_size = rw count.held.is count.held.size

  -- the lift is 2^i times the divisor
  pub count_near : (i : ℕ) → 1 ≤ i → 0 < k → ((n : ℕ) → k * n % 2 ≡ n % 2) → k * (2 ^ (j + 1) * 2 ^ i) ≡ c + 1
      → let w = nat_abs count.code in pos ((w + w / 2 ^ (j + 1) % 2) / 2 ^ (j + 1) / k) -ℤ pos (2 ^ i) ≡ near v (2 * half)
  count_near i h some parity e = rw twice (lifted_near v k j (2 ^ (i - 1)) (nat_abs count.code) some parity lifted)
    where
      twice : 2 ^ i ≡ 2 * 2 ^ (i - 1)
      twice = let i-is : i ≡ i - 1 + 1 = omega arith in ap (λ n. 2 ^ n) i-is ∙ pow-add 2 (i - 1) 1 ∙ omega arith

      all : 2 * half * (2 * 2 ^ (i - 1)) ≡ c + 1
      all =
          let parts : k * (2 ^ (j + 1) * 2 ^ i) ≡ k * (2 ^ j * 2 * 2 ^ i) = ap (λ q. k * (q * 2 ^ i)) (pow-add 2 j 1) in
          rw (← twice) (omega (arith, e, parts))

      go : (v : ℤ) (h : ℕ) → v +ℤ (pos c +ℤ pos h) ≡ v +ℤ (pos (c + 1) +ℤ (pos h -ℤ pos 1))
      go v h = rw (split v) (simp whole (omega arith))

      lifted : Lifted v half (2 ^ (i - 1)) (nat_abs count.code)
      lifted = sym count_is ∙ count.held.is ∙ rw all (go v half)

-- by 2 or more the count is halved at least
pub quotient_size : (w p : ℕ) → 2 ≤ p → w ≤ 7_911_686_018_830_041_087 → (w + w / p % 2) / p ≤ 3_955_843_009_415_020_544
quotient_size w p h l = let x = w + w / p % 2 in omega (arith, div-add-mod x p, mul-le-mul_left (x / p) h)
