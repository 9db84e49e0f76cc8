-- The numerators and 6U³ are whole numbers that f64 holds, and are divided as the rule has it.
use Rattle.std.proofs.Common.{◌≡◌, ℕ, zero, suc, ◌+◌, ◌-◌, ◌*◌, ◌%◌, ◌^◌, ◌≤◌, [], ◌∷◌, ℤ, pos, nat_abs, sym, ap, ◌∙◌, add-sub_of_le, mod-eq_of_lt, mul-le-mul_left, le_trans, pow_mono, pow-add, to_z, of_z, arith}
use Rattle.std.specs.Prelude.{Float}
use Rattle.std.specs.Int.{w64}
use Rattle.algebra.specs.Table.{tabulate}
use Rattle.machine.specs.Held.{Held, cast_low, read, small}
use Rattle.rules.specs.Level as rule
use Rattle.rules.specs.Level.{◌⊘◌}
use Rattle.rules.specs.Surface.{numerator, denominator}
use Rattle.rules.specs.Laws.Basis.{weights}
use Rattle.rules.proofs.Laws.Basis.{numerator_weights, weights_sum}
use Rattle.basis.specs.Weighing.{Weighs}
use Rattle.weights.proofs.axis.Goals as goal
use Rattle.weights.proofs.axis.Goals.{After-basis_of-b}

-- ---- sizes

-- 6U³ as the code has it
denominator_power : (e : ℕ) → denominator (2 ^ e) ≡ 6 * 2 ^ (3 * e)
unfolding denominator
denominator_power e =
    ap (λ q. 6 * q) (sym (ap (λ k. 2 ^ k) (omega arith) ∙ pow-add 2 (e + e) e ∙ ap (λ q. q * 2 ^ e) (pow-add 2 e e)))

denominator_most : (e : ℕ) → e ≤ 9 → denominator (2 ^ e) ≤ 6 * 2 ^ 27
denominator_most e h = rw (denominator_power e) (mul-le-mul_left 6 (pow_mono {j = 27} (omega arith)))

-- the four numerators are not negative and add up to 6U³
numerator_most : (U a : ℕ) → a ≤ U → (k : ℕ) → nat_abs (numerator (pos U) (pos a) k) ≤ denominator U
unfolding weights
numerator_most U a h k =
    let e : a + (U - a) ≡ U = add-sub_of_le h in
    rw (numerator_weights a (U - a) e k) (one k (weights_sum a (U - a) e))
  where
    one : (k : ℕ) → weights a (U - a) 0 + weights a (U - a) 1 + weights a (U - a) 2 + weights a (U - a) 3 ≡ denominator U → weights a (U - a) k ≤ denominator U
    one zero s = omega arith
    one (suc zero) s = omega arith
    one (suc (suc zero)) s = omega arith
    one (suc (suc (suc k))) s = omega arith

-- ---- what the code's expressions hold

unit_is : (e : ℕ) → e ≤ 9 → 1 * 2 ^ e % 2 ^ 64 ≡ 2 ^ e
unit_is e h = mod-eq_of_lt {n = 1 * 2 ^ e} {m = 2 ^ 64} (omega (arith, pow_mono {j = 9} h)) ∙ omega arith

divisor_held : (e : ℕ) → e ≤ 9 → Held (to_z w64 (6 * 2 ^ (3 * e) % 2 ^ 64)) (pos (denominator (2 ^ e))) (6 * 2 ^ 27)
divisor_held e h = rw (← denominator_power e) (cast_low (denominator (2 ^ e)) (6 * 2 ^ 27) (denominator_most e h) tt)

-- the list of four
four : {x0 x1 x2 x3 : Float} (f : ℕ → Float) → x0 ≡ f 0 → x1 ≡ f 1 → x2 ≡ f 2 → x3 ≡ f 3 → x0 ∷ x1 ∷ x2 ∷ x3 ∷ [] ≡ tabulate 4 f
unfolding tabulate
four f e0 e1 e2 e3 = rw (e0, e1, e2, e3)

-- ---- the four numerators

module _ (c : After-basis_of-b) where
  abbrev e : ℕ
  e = c.args.e

  abbrev a : ℕ
  a = c.args.a

  weighs : Weighs c.basis_of-b.result (2 ^ e) a
  weighs = rw (unit_is e c.requires.0) at c.basis_of-b.ensures

  numerator_held : {z : ℤ} (k : ℕ) → z ≡ numerator (pos (2 ^ e)) (pos a) k → Held (to_z w64 (of_z w64 z)) (numerator (pos (2 ^ e)) (pos a) k) (6 * 2 ^ 27)
  numerator_held k h = read tt (record { is = h; size = le_trans (numerator_most (2 ^ e) a c.requires.1 k) (denominator_most e c.requires.0) })

  asked : {z : ℤ} (k : ℕ) → z ≡ numerator (pos (2 ^ e)) (pos a) k → nat_abs (to_z w64 (of_z w64 z)) ≤ 2 ^ 53
  asked k h = small (2 ^ 53) tt (numerator_held k h)

  quotient : {x y : Float} {z : ℤ} (k : ℕ) → x ≡ rule.float (to_z w64 (of_z w64 z)) → y ≡ rule.float (to_z w64 (6 * 2 ^ (3 * e) % 2 ^ 64))
      → z ≡ numerator (pos (2 ^ e)) (pos a) k → x ⊘ y ≡ rule.basis (2 ^ e) a k
  unfolding rule.basis
  quotient k p q h = rw (p, q, (numerator_held k h).is, (divisor_held e c.requires.0).is)

pub basis_of-b-requires : goal.basis_of-b-requires
basis_of-b-requires c = rw (unit_is c.args.e c.requires.0) (pow_mono {j = 9} c.requires.0, c.requires.1)

pub exact-requires : goal.exact-requires
exact-requires c = let b = (goal.at.exact-requires c).After-basis_of-b in asked b 0 (weighs b).n0

pub exact-requires-2 : goal.exact-requires-2
exact-requires-2 c = let b = (goal.at.exact-requires-2 c).After-basis_of-b in asked b 1 (weighs b).n1

pub exact-requires-3 : goal.exact-requires-3
exact-requires-3 c = let b = (goal.at.exact-requires-3 c).After-basis_of-b in asked b 2 (weighs b).n2

pub exact-requires-4 : goal.exact-requires-4
exact-requires-4 c = let b = (goal.at.exact-requires-4 c).After-basis_of-b in asked b 3 (weighs b).n3

pub returns : goal.returns
returns c =
    let b = (goal.at.returns c).After-basis_of-b in
    let d = c.exact-d.ensures in
    four (rule.basis (2 ^ c.args.e) c.args.a)
    (quotient b 0 c.exact.ensures d (weighs b).n0)
    (quotient b 1 c.exact-2.ensures d (weighs b).n1)
    (quotient b 2 c.exact-3.ensures d (weighs b).n2)
    (quotient b 3 c.exact-4.ensures d (weighs b).n3)
