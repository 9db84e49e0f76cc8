-- near of 6U³·z + 3U³ is above z exactly if z is odd: then the greatest sum is one less, else that sum itself.
use Rattle.std.proofs.Common.{◌≡◌, ℕ, ◌*◌, ◌^◌, ◌≤◌, ◌↔◌, ℤ, pos, nat_abs, ◌+ℤ◌, ◌-ℤ◌, ◌*ℤ◌, ◌<ℤ◌, ap, ◌∙◌, arith}
use Rattle.std.proofs.Math.Nat.{mul-le-mul_left}
use Rattle.std.proofs.Math.Pow.{pow_pos, pow_mono}
use mathlib.Core.Logic.Iff
use Rattle.algebra.specs.Difference.{split, whole}
use Rattle.machine.specs.Held.{Held, Number, number, itself, literal, cast_low, read, plus, minus, times, fits}
use Rattle.rules.specs.Rounding.{near}
use Rattle.rules.specs.Surface.{denominator}
use Rattle.rules.specs.Laws.Rounding.{odd}
use Rattle.rules.proofs.Laws.Rounding.{near_above}
use Rattle.roundings.proofs.Powers.{denominator_power}
use Rattle.roundings.proofs.most_under.Goals as goal

-- over an even divisor the halves go
halved : (h b : ℕ) (v z : ℤ) → b ≤ 1 → ((pos (2 * (2 * h)) *ℤ z +ℤ (pos (2 * h) -ℤ pos b)) <ℤ (pos 2 *ℤ v)) ↔ ((pos (2 * h) *ℤ z +ℤ (pos h -ℤ pos b)) <ℤ v)
halved h b v z = rw (split v, split z) (simp whole (omega arith))

-- ---- the numbers of the code

module _ (a : ℤ) (e : ℕ) (small : (nat_abs a ≤ 4_000_000_000) × (e ≤ 9)) where
  -- 3U³
  abbrev h : ℕ
  h = 3 * 2 ^ (3 * e)

  abbrev half : Number
  half = number (cast_low h (3 * 2 ^ 27) (mul-le-mul_left 3 (pow_mono {j = 27} (omega (arith, small.1)))) tt)

  abbrev z : Number
  z = number (read tt (itself a 4_000_000_000 small.0))

  abbrev unit : Number
  unit = number (times (literal (pos 2)) half.held)

  abbrev product : Number
  product = number (times (read tt unit.held) z.held)

  above_most : (v : ℤ) → (a <ℤ near v (denominator (2 ^ e))) ↔ ((pos (2 * h) *ℤ a +ℤ (pos h -ℤ pos (odd a))) <ℤ v)
  above_most v =
      rw (denominator_power e)
      (Iff.trans (near_above v a (2 * h) (omega (arith, pow_pos (3 * e)))) (halved h (odd a) v a (omega arith)))

  module _ (r : ℤ) (is : r ≡ pos (odd z.code)) where
    abbrev digit : Held r (pos (odd a)) 1
    digit = record { is = is ∙ ap (λ n. pos (odd n)) z.held.is; size = omega arith }

    abbrev rest : Number
    rest = number (minus half.held (read tt digit))

    abbrev most : Number
    most = number (plus (read tt product.held) (read tt rest.held))

-- ---- what it returns

pub returns : goal.returns
returns c v = let a = c.args in rw (read tt (most a.z a.e c.requires c.lowest.result c.lowest.ensures).held).is (above_most a.z a.e c.requires v)

-- ---- what its steps ask

pub overflow_mul-result-2 : goal.overflow_mul-result-2
overflow_mul-result-2 c = fits tt (product c.args.z c.args.e c.requires).held

pub overflow_add-result : goal.overflow_add-result
overflow_add-result c = fits tt (most c.args.z c.args.e c.requires c.lowest.result c.lowest.ensures).held
