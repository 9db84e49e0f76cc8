-- No part of the sum is larger than the sum of the numerators' sizes times the largest value.
use Rattle.std.proofs.Common.{ℕ, ◌*◌, ◌≤◌, ℤ, nat_abs, ◌*ℤ◌, le_refl, to_z, of_z, arith}
use Rattle.std.specs.Int.{w64}
use Rattle.machine.specs.Held.{Held, Number, number, itself, read, read_below, below, plus, times, fits, small}
use Rattle.rules.specs.Surface.{weighted}
use Rattle.basis.specs.Weighing.{weight_size}
use Rattle.basis.specs.declared.Basis.{Basis}
use Rattle.basis.proofs.weighed.Goals as goal

-- what no part of the sum is larger than
abbrev most : ℕ
most = 805_306_368 * 4_000_000_000

product : (b p : ℤ) → nat_abs b ≤ 805_306_368 → nat_abs p ≤ 4_000_000_000 → Held (to_z w64 (of_z w64 b) *ℤ to_z w64 (of_z w64 p)) (b *ℤ p) (nat_abs b * 4_000_000_000)
product b p h k = times (read_below 805_306_368 tt h (itself b (nat_abs b) (le_refl (nat_abs b)))) (read tt (itself p 4_000_000_000 k))

-- ---- the code's expressions

module _ (b : Basis) (p0 p1 p2 p3 : ℤ) (bounded : weight_size b ≤ 805_306_368)
    (ranged : (nat_abs p0 ≤ 4_000_000_000) × (nat_abs p1 ≤ 4_000_000_000) × (nat_abs p2 ≤ 4_000_000_000) × (nat_abs p3 ≤ 4_000_000_000)) where
  abbrev first : Number
  first = number (product b.b0 p0 (omega arith) ranged.0)

  abbrev second : Number
  second = number (product b.b1 p1 (omega arith) ranged.1)

  abbrev third : Number
  third = number (product b.b2 p2 (omega arith) ranged.2)

  abbrev fourth : Number
  fourth = number (product b.b3 p3 (omega arith) ranged.3)

  abbrev two : Number
  two = number (plus (read_below most tt (omega arith) first.held) (read_below most tt (omega arith) second.held))

  abbrev three : Number
  three = number (plus (read_below most tt (omega arith) two.held) (read_below most tt (omega arith) third.held))

  abbrev four : Number
  four = number (plus (read_below most tt (omega arith) three.held) (read_below most tt (omega arith) fourth.held))

-- ---- nothing wraps

pub overflow_mul-result-2 : goal.overflow_mul-result-2
overflow_mul-result-2 c =
    let a = c.args in
    fits tt (below most (omega arith) (second a.b a.p0 a.p1 a.p2 a.p3 c.requires.weights_bounded c.requires.values_in_range).held)

pub overflow_add-result : goal.overflow_add-result
overflow_add-result c =
    let a = c.args in
    fits tt (below most (omega arith) (two a.b a.p0 a.p1 a.p2 a.p3 c.requires.weights_bounded c.requires.values_in_range).held)

pub overflow_mul-result-3 : goal.overflow_mul-result-3
overflow_mul-result-3 c =
    let a = c.args in
    fits tt (below most (omega arith) (third a.b a.p0 a.p1 a.p2 a.p3 c.requires.weights_bounded c.requires.values_in_range).held)

pub overflow_add-result-2 : goal.overflow_add-result-2
overflow_add-result-2 c =
    let a = c.args in
    fits tt (below most (omega arith) (three a.b a.p0 a.p1 a.p2 a.p3 c.requires.weights_bounded c.requires.values_in_range).held)

pub overflow_mul-result-4 : goal.overflow_mul-result-4
overflow_mul-result-4 c =
    let a = c.args in
    fits tt (below most (omega arith) (fourth a.b a.p0 a.p1 a.p2 a.p3 c.requires.weights_bounded c.requires.values_in_range).held)

pub overflow_add-result-3 : goal.overflow_add-result-3
overflow_add-result-3 c =
    let a = c.args in
    fits tt (below most (omega arith) (four a.b a.p0 a.p1 a.p2 a.p3 c.requires.weights_bounded c.requires.values_in_range).held)

-- ---- what it returns

pub returns : goal.returns
unfolding weighted
returns c =
    let a = c.args in
    let answer = below most (omega arith) (four a.b a.p0 a.p1 a.p2 a.p3 c.requires.weights_bounded c.requires.values_in_range).held in
    ((read tt answer).is, small most tt (read tt answer))
