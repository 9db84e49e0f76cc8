-- near of the size of v, with its sign.
use Rattle.std.proofs.Common.{◌≡◌, ℕ, ◌+◌, ◌*◌, ◌/◌, ◌%◌, ◌^◌, ◌≤◌, ℤ, pos, neg_ℤ, nat_abs, ◌+ℤ◌, ◌-ℤ◌, ◌≤ℤ◌, ◌<ℤ◌, refl, sym, ap, ◌∙◌, arith}
use Rattle.std.proofs.Math.Nat.{mul-le-mul_left, div-le_self, le_trans}
use Rattle.std.proofs.Math.IntN.{+ℤ_idl, +ℤ_idr, +ℤ_comm, neg_ℤ-neg_ℤ}
use Rattle.std.proofs.Math.Pow.{pow_pos, pow_mono}
use Rattle.algebra.specs.Difference.{split, whole}
use Rattle.machine.specs.Held.{Held, Number, number, itself, literal, cast_low, read, plus, minus, returned}
use Rattle.machine.specs.Tests.{less, not_less}
use Rattle.rules.specs.Rounding.{near}
use Rattle.rules.specs.Surface.{denominator}
use Rattle.rules.proofs.Laws.Rounding.{near_odd}
use Rattle.rules.proofs.Laws.Surface.{denominator_positive}
use Rattle.roundings.proofs.Lifted.{lifted_near}
use Rattle.roundings.proofs.Powers.{denominator_power}
use Rattle.roundings.proofs.near_over_tested.Goals as goal

-- the quotient of a count with 3U³ - 1 in it
abbrev quotient : ℕ → ℕ → ℕ
quotient e w = let p = 2 ^ (3 * e + 1) in (w + w / p % 2) / p / 3

quotient_most : (e w : ℕ) → quotient e w ≤ w + 1
quotient_most e w = let p = 2 ^ (3 * e + 1) in let x = w + w / p % 2 in omega (arith, div-le_self (x / p) 3, div-le_self x p)

quotient_near : (v : ℤ) (e w : ℕ) → pos w ≡ v +ℤ (pos (3 * 2 ^ (3 * e)) -ℤ pos 1) → pos (quotient e w) ≡ near v (denominator (2 ^ e))
quotient_near v e w is =
    let h = 3 * 2 ^ (3 * e) in
    let none : 2 * h * (2 * 0) ≡ 0 = omega arith in
    let lifted = is ∙ sym (ap (λ n. v +ℤ (pos n +ℤ (pos h -ℤ pos 1))) none ∙ ap (λ z. v +ℤ z) (+ℤ_idl (pos h -ℤ pos 1))) in
    sym (+ℤ_idr (pos (quotient e w))) ∙ lifted_near v 3 (3 * e) 0 w (omega arith) (λ n. omega arith) lifted ∙ ap (near v) (sym (denominator_power e))

-- ---- the code's expressions

module _ (a : ℤ) (e : ℕ) (small : (nat_abs a ≤ 3_221_225_472_000_000_000) × (e ≤ 9)) where
  abbrev h : ℕ
  h = 3 * 2 ^ (3 * e)

  abbrev v : Number
  v = number (read tt (itself a 3_221_225_472_000_000_000 small.0))

  abbrev half : Number
  half = number (minus (cast_low h (3 * 2 ^ 27) (mul-le-mul_left 3 (pow_mono {j = 27} (omega (arith, small.1)))) tt) (literal (pos 1)))

  abbrev below : Number
  below = number (minus (read tt half.held) v.held)

  abbrev above : Number
  above = number (plus (read tt half.held) v.held)

  -- both are counts, each where it is taken
  abbrev low : Number
  low = number (read tt below.held)

  abbrev high : Number
  high = number (read tt above.held)

  half_least : 1 ≤ h
  half_least = omega (arith, pow_pos (3 * e))

  low_is : a <ℤ pos 0 → low.code ≡ pos (nat_abs low.code)
  low_is = rw low.held.is (go a h half_least)
    where
      go : (v : ℤ) (h : ℕ) → 1 ≤ h → v <ℤ pos 0 → pos h -ℤ pos 1 -ℤ v ≡ pos (nat_abs (pos h -ℤ pos 1 -ℤ v))
      go v h = rw (split v) (simp whole (omega arith))

  high_is : pos 0 ≤ℤ a → high.code ≡ pos (nat_abs high.code)
  high_is = rw high.held.is (go a h half_least)
    where
      go : (v : ℤ) (h : ℕ) → 1 ≤ h → pos 0 ≤ℤ v → pos h -ℤ pos 1 +ℤ v ≡ pos (nat_abs (pos h -ℤ pos 1 +ℤ v))
      go v h = rw (split v) (simp whole (omega arith))

  low_size : nat_abs low.code ≤ 3_221_225_472_402_653_185
  low_size = rw low.held.is low.held.size

  module _ (negative : a <ℤ pos 0) (r : ℤ) (r_is : r ≡ pos (quotient e (nat_abs low.code))) where
    quotient_held : Held r (near (neg_ℤ a) (denominator (2 ^ e))) 3_221_225_472_402_653_186
    quotient_held =
        let w = nat_abs low.code in
        let is : pos w ≡ neg_ℤ a +ℤ (pos h -ℤ pos 1) = sym (low_is negative) ∙ low.held.is ∙ +ℤ_comm (pos h -ℤ pos 1) (neg_ℤ a) in
        let near-is = quotient_near (neg_ℤ a) e w is in
        record { is = r_is ∙ near-is; size = rw (← near-is) (le_trans (quotient_most e w) (omega (arith, low_size))) }

    abbrev result : Number
    result = number (minus (literal (pos 0)) (read tt quotient_held))

-- ---- what it returns

pub returns-then-v-lt0 : goal.returns-then-v-lt0
returns-then-v-lt0 c =
    let a = c.args in
    let negative = less (v a.v a.e c.requires).held.is refl c.if-v-lt0.true in
    (read tt (result a.v a.e c.requires negative c.sixths.result c.sixths.ensures).held).is
    ∙ +ℤ_idl _
    ∙ sym (near_odd (neg_ℤ a.v) (denominator (2 ^ a.e)) (denominator_positive (2 ^ a.e) (pow_pos a.e)))
    ∙ ap (λ v. near v (denominator (2 ^ a.e))) (neg_ℤ-neg_ℤ a.v)

pub returns-else-v-lt0 : goal.returns-else-v-lt0
returns-else-v-lt0 c =
    let a = c.args in
    let count = high a.v a.e c.requires in
    let positive = not_less (v a.v a.e c.requires).held.is refl c.if-v-lt0.false in
    let is = sym (high_is a.v a.e c.requires positive) ∙ count.held.is ∙ +ℤ_comm (pos (h a.v a.e c.requires) -ℤ pos 1) a.v in
    returned c.sixths-else-v-lt0.type_inv c.sixths-else-v-lt0.ensures ∙ quotient_near a.v a.e (nat_abs count.code) is
