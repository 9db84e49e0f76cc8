-- near(v / d) is near of 2v over 2d, and at an exact half the floor of v / d is 1 below the larger of the two.
use Rattle.std.proofs.Common.{◌≡◌, ℕ, ◌-◌, ◌*◌, ◌≤◌, ℤ, pos, nat_abs, ◌+ℤ◌, ◌-ℤ◌, ◌*ℤ◌, ◌≤ℤ◌, ◌<ℤ◌, sym, ap, ◌∙◌, arith}
use Rattle.algebra.specs.Difference.{split, whole}
use Rattle.machine.specs.Held.{Held, Number, number, itself, literal, cast, read, plus, minus, times, small, returned}
use Rattle.rules.specs.Rounding.{floor, near}
use Rattle.rules.specs.Laws.Rounding.{odd}
use Rattle.rules.proofs.Laws.Rounding.{floor_unique, near_even, near_double}
use Rattle.roundings.proofs.Quotient.{floor_size}
use Rattle.roundings.proofs.near_any.Goals as goal

any_is : (v : ℤ) (d : ℕ) → 1 ≤ d → floor (pos 2 *ℤ v +ℤ (pos d -ℤ pos 1 +ℤ pos (odd (floor v d)))) (2 * d) ≡ near v d
any_is v d h =
    let q = floor v d in
    ap (λ z. floor (pos 2 *ℤ v +ℤ z) (2 * d)) (less (odd q) (omega arith))
    ∙ sym (near_even (pos 2 *ℤ v) d (1 - odd q) h (omega arith) at_half)
    ∙ near_double v d h
  where
    less : (b : ℕ) → b ≤ 1 → pos d -ℤ pos 1 +ℤ pos b ≡ pos d -ℤ pos (1 - b)
    less b = simp whole (omega arith)

    low : (v n : ℤ) → pos 2 *ℤ v +ℤ pos d ≡ pos (2 * d) *ℤ n → (pos d *ℤ (n -ℤ pos 1)) ≤ℤ v
    low v n = rw (split v, split n) (simp whole (omega arith))

    high : (v n : ℤ) → pos 2 *ℤ v +ℤ pos d ≡ pos (2 * d) *ℤ n → v <ℤ (pos d *ℤ (n -ℤ pos 1 +ℤ pos 1))
    high v n = rw (split v, split n) (simp whole (omega arith))

    digit : (n : ℤ) → 1 - odd (n -ℤ pos 1) ≡ odd n
    digit n = rw (split n) (simp whole (omega arith))

    at_half : (n : ℤ) → pos 2 *ℤ v +ℤ pos d ≡ pos (2 * d) *ℤ n → 1 - odd (floor v d) ≡ odd n
    at_half n e = ap (λ q. 1 - odd q) (sym (floor_unique v d (n -ℤ pos 1) h (record { low = low v n e; high = high v n e }))) ∙ digit n

-- ---- the code's expressions

module _ (a : ℤ) (d : ℕ) (within : (nat_abs a ≤ 2_000_000_000_000_000_000) × (1 ≤ d) × (d ≤ 2_147_483_648)) where
  abbrev v : Number
  v = number (read tt (itself a 2_000_000_000_000_000_000 within.0))

  abbrev by : Number
  by = number (minus (cast d 2_147_483_648 within.2 tt) (literal (pos 1)))

  abbrev twice : Number
  twice = number (times (literal (pos 2)) v.held)

  module _ (q : ℤ) (q_is : q ≡ floor v.code d) where
    floor_held : Held q (floor a d) 2_000_000_000_000_000_000
    floor_held = record { is = q_is ∙ ap (λ z. floor z d) v.held.is; size = floor_size a d within.0 }

    module _ (r : ℤ) (r_is : r ≡ pos (odd (number (read tt floor_held)).code)) where
      abbrev digit : Held r (pos (odd (floor a d))) 1
      digit = record { is = r_is ∙ ap (λ n. pos (odd n)) (read tt floor_held).is; size = omega arith }

      abbrev half : Number
      half = number (plus (read tt by.held) (read tt digit))

      abbrev sum : Number
      sum = number (plus (read tt twice.held) (read tt half.held))

-- ---- what it returns

pub returns : goal.returns
returns c =
    let a = c.args in
    let total = sum a.v a.d c.requires c.floor_over.result c.floor_over.ensures c.lowest.result c.lowest.ensures in
    returned c.floor_over-2.type_inv c.floor_over-2.ensures
    ∙ ap (λ z. floor z (2 * a.d)) (read tt total.held).is
    ∙ any_is a.v a.d c.requires.1

-- ---- what its steps ask

pub lowest-requires : goal.lowest-requires
lowest-requires c = small 2_000_000_000_000_000_000 tt (read tt (floor_held c.args.v c.args.d c.requires c.floor_over.result c.floor_over.ensures))

pub floor_over-requires-2 : goal.floor_over-requires-2
floor_over-requires-2 c =
    let a = c.args in
    let total = sum a.v a.d c.requires c.floor_over.result c.floor_over.ensures c.lowest.result c.lowest.ensures in
    (small 4_611_686_018_427_387_904 tt (read tt total.held), omega (arith, c.requires.1), omega (arith, c.requires.2))
