-- The lift is 3·2^60.
use Rattle.std.proofs.Common.{◌≡◌, ℕ, ◌+◌, ◌-◌, ◌*◌, ◌/◌, ◌%◌, ◌^◌, ◌≤◌, ℤ, pos, nat_abs, ◌-ℤ◌, sym, ap, ◌∙◌, arith}
use Rattle.std.proofs.Math.Nat.{one-mul}
use Rattle.std.proofs.Math.Pow.{pow-add, pow_mono}
use Rattle.machine.specs.Held.{Held, Number, number, cast_low, read, minus, fits}
use Rattle.rules.specs.Rounding.{near}
use Rattle.rules.specs.Surface.{denominator}
use Rattle.roundings.proofs.Counted.{Counted, count, count_size, count_near, quotient_size}
use Rattle.roundings.proofs.Powers.{denominator_power}
use Rattle.roundings.proofs.near_over.Goals as goal

-- ---- the code's expressions

module _ (v : ℤ) (e : ℕ) (small : (nat_abs v ≤ 3_221_225_472_000_000_000) × (e ≤ 9)) where
  counted : Counted v 3 (3 * e) 3_458_764_513_820_540_927
  counted = record { size = omega (arith, small.0); few = omega arith; low = omega (arith, small.1); least = omega arith; most = omega arith }

  abbrev w : ℕ
  w = nat_abs (count counted).code

  abbrev quotient : ℕ
  quotient = let p = 2 ^ (3 * e + 1) in (w + w / p % 2) / p / 3

  near_is : pos quotient -ℤ pos (1 * 2 ^ (59 - 3 * e)) ≡ near v (denominator (2 ^ e))
  near_is =
      let s = 3 * e in
      let i = 59 - s in
      let sum : s + 1 + i ≡ 60 = omega (arith, small.1) in
      let all : 3 * (2 ^ (s + 1) * 2 ^ i) ≡ 3_458_764_513_820_540_928 = ap (λ q. 3 * q) (sym (pow-add 2 (s + 1) i) ∙ ap (λ n. 2 ^ n) sum) in
      ap (λ l. pos quotient -ℤ pos l) (one-mul (2 ^ i))
      ∙ count_near counted i (omega (arith, small.1)) (omega arith) (λ n. omega arith) all
      ∙ ap (near v) (sym (denominator_power e))

  module _ (r : ℤ) (is : r ≡ pos quotient) where
    quotient_held : Held r (pos quotient) 1_318_614_336_471_673_514
    quotient_held =
        let p = 2 ^ (3 * e + 1) in
        let most = quotient_size w p (pow_mono {i = 1} (omega arith)) (count_size counted) in
        record { is = is; size = omega (arith, most) }

    abbrev result : Number
    result =
        number
        (minus (read tt quotient_held) (cast_low (1 * 2 ^ (59 - 3 * e)) (1 * 2 ^ 59) (omega (arith, pow_mono {i = 59 - 3 * e} {j = 59} (omega arith))) tt))

-- ---- what it returns

pub returns : goal.returns
returns c =
    let a = c.args in
    (read tt (result a.v a.e c.requires c.sixths.result c.sixths.ensures).held).is ∙ near_is a.v a.e c.requires

-- ---- nothing wraps

pub overflow_sub-result-2 : goal.overflow_sub-result-2
overflow_sub-result-2 c = fits tt (result c.args.v c.args.e c.requires c.sixths.result c.sixths.ensures).held
