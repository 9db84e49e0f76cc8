-- The lift is 2^62.
use Rattle.std.proofs.Common.{◌≡◌, ℕ, ◌+◌, ◌-◌, ◌*◌, ◌/◌, ◌%◌, ◌^◌, ◌≤◌, ℤ, pos, nat_abs, ◌-ℤ◌, sym, ap, ap₂, subst, ◌∙◌, arith}
use Rattle.std.proofs.Math.Nat.{div-one, one-mul, mul_comm}
use Rattle.std.proofs.Math.Pow.{pow-add, pow_mono}
use Rattle.machine.specs.Held.{Number, number, cast, cast_low, read, minus, fits}
use Rattle.rules.specs.Rounding.{near}
use Rattle.roundings.proofs.Counted.{Counted, count, count_size, count_near, quotient_size}
use Rattle.roundings.proofs.near_shift.Goals as goal

-- ---- the code's expressions

module _ (v : ℤ) (s : ℕ) (small : (nat_abs v ≤ 3_300_000_000_000_000_000) × (1 ≤ s) × (s ≤ 28)) where
  counted : Counted v 1 (s - 1) 4_611_686_018_427_387_903
  counted = record { size = small.0; few = omega arith; low = omega arith; least = omega arith; most = omega arith }

  abbrev w : ℕ
  w = nat_abs (count counted).code

  near_is : let p = 2 ^ s in pos ((w + w / p % 2) / p) -ℤ pos (1 * 2 ^ (62 - s)) ≡ near v p
  near_is =
      let i = 62 - s in
      let next : s - 1 + 1 ≡ s = omega arith in
      let sum : s + i ≡ 62 = omega arith in
      let all : 1 * (2 ^ (s - 1 + 1) * 2 ^ i) ≡ 4_611_686_018_427_387_904 = rw next (one-mul (2 ^ s * 2 ^ i) ∙ sym (pow-add 2 s i) ∙ ap (λ n. 2 ^ n) sum) in
      let power : 2 * (1 * 2 ^ (s - 1)) ≡ 2 ^ s = rw (one-mul (2 ^ (s - 1))) (mul_comm 2 (2 ^ (s - 1)) ∙ sym (pow-add 2 (s - 1) 1) ∙ ap (λ n. 2 ^ n) next) in
      ap₂ (λ q l. pos q -ℤ pos l) (sym (div-one ((w + w / 2 ^ s % 2) / 2 ^ s))) (one-mul (2 ^ i))
      ∙ subst (λ n. pos ((w + w / 2 ^ n % 2) / 2 ^ n / 1) -ℤ pos (2 ^ i) ≡ near v (2 * (1 * 2 ^ (s - 1)))) next
      (count_near counted i (omega arith) (omega arith) (λ n. ap (λ m. m % 2) (one-mul n)) all)
      ∙ ap (near v) power

  module _ (q : ℕ) (is : q ≡ (w + w / 2 ^ s % 2) / 2 ^ s) where
    quotient_most : q ≤ 3_955_843_009_415_020_544
    quotient_most = rw is (quotient_size w (2 ^ s) (pow_mono {i = 1} small.1) (count_size counted))

    abbrev result : Number
    result =
        number
        (minus (cast q 3_955_843_009_415_020_544 quotient_most tt) (cast_low (1 * 2 ^ (62 - s)) (1 * 2 ^ 61) (omega (arith, pow_mono {i = 62 - s} {j = 61} (omega arith))) tt))

-- ---- what it returns

pub returns : goal.returns
returns c =
    let a = c.args in
    (read tt (result a.v a.s c.requires c.to_even.result c.to_even.ensures).held).is
    ∙ ap (λ r. pos r -ℤ pos (1 * 2 ^ (62 - a.s))) c.to_even.ensures
    ∙ near_is a.v a.s c.requires

-- ---- nothing wraps

pub overflow_sub-result-2 : goal.overflow_sub-result-2
overflow_sub-result-2 c = fits tt (result c.args.v c.args.s c.requires c.to_even.result c.to_even.ensures).held
