-- q + 1.5 × 2^52 - 1.5 × 2^52 in f64, for a q in range: the sum lies from 2^52 to 2^53, where it rounds to a whole number, and the difference is exact.
use mathlib.Core.Path.{◌≡◌, refl, ap, ◌∙◌}
use mathlib.Core.Bool.{Bool, true, false, true≢false}
use Prim.Native.Nat.{ℕ, suc, ◌+◌, ◌-◌, ◌*◌, ◌^◌, ◌≤◌, ◌<◌}
use native.Mathlib.Omega.{arith}
use borrow.Author.Tests.{lt-ltb, le-ltb}
use lib.Dec.{lit≤}
use lib.IntN.{ℤ, pos, negsuc, neg_ℤ, nat_abs, ◌+ℤ◌}
use lib.Ieee.{Float, nan, inf, fin, binary64, up, down, round, neg, sum, add, sub, of_int}
use lib.Ieee.Fits.{down_pos}
use lib.Ieee.Exact.{HasValue}
use lib.Ieee.Nearest.{closest}
use lib.Ieee.Scale.{round_same}
use Rattle.algebra.specs.Difference.{whole}
use Rattle.rules.specs.Grid.{limit}
use Rattle.rules.specs.Level.{signed}
use Rattle.rules.specs.Rounding.{near}
use Rattle.float_near.proofs.Fraction.{closest_near, near_moved}
use Rattle.float_near.proofs.WholeRange.{round_to_whole}

-- the code's constant SHIFT, 1.5 × 2^52: as a number, and as an f64
abbrev base : ℕ
base = 3 * 2 ^ 51

abbrev pub shift : Float
shift = fin false 3 (pos 51)

less_is : (n a b : ℕ) → pos n ≡ neg_ℤ (pos a) +ℤ pos b → n + a ≡ b
less_is n a b = simp whole (omega arith)

-- ---- the sum: N / d, which is above zero for either sign of q, rounded

sum_is : (s : Bool) (m : ℕ) (e : ℤ) (N : ℕ) → 0 < N → pos N ≡ signed s (m * up e) +ℤ pos (base * down e) → add binary64 (fin s m e) shift ≡ round binary64 false N (down e)
unfolding add sum signed
sum_is true m e N p h =
    let a : N + m * up e ≡ base * down e = less_is N (m * up e) (base * down e) h in
    let n : N ≡ base * down e - m * up e * 1 = omega arith in
    rw (lt-ltb (m * up e * 1) (base * down e) (omega arith))
    (round_same binary64 false (base * down e - m * up e * 1) (down e * 1) N (down e) (omega (arith, down_pos e)) (down_pos e) (omega (arith, ap (λ x. x * down e) n)))
sum_is false m e N p h =
    let n : N ≡ m * up e + base * down e = ap nat_abs h in
    round_same binary64 false (m * up e * 1 + base * down e) (down e * 1) N (down e) (omega (arith, down_pos e)) (down_pos e) (omega (arith, ap (λ x. x * down e) n))

-- ---- the difference, from a sum that is the whole number R

difference_is : (t : Float) (R : ℕ) (n : ℤ) → HasValue t false R 1 → pos R ≡ n +ℤ pos base → sub binary64 t shift ≡ of_int binary64 n
unfolding sub add sum neg of_int
difference_is nan R n v h = elim v [ ]
difference_is (inf _) R n v h = elim v [ ]
difference_is (fin true m e) R n v h = absurd (true≢false v.0)
difference_is (fin false m e) R (pos n) v h =
    let r : R * down e ≡ (n + base) * down e = ap (λ x. nat_abs x * down e) h in
    rw (le-ltb (m * up e * 1) (base * down e) (omega (arith, v.1)))
    (round_same binary64 false (m * up e * 1 - base * down e) (down e * 1) n 1 (omega (arith, down_pos e)) (lit≤ tt) (omega (arith, v.1)))
difference_is (fin false m e) R (negsuc n) v h =
    let r : (R + suc n) * down e ≡ base * down e = ap (λ x. x * down e) (less_is R (suc n) base h) in
    rw (lt-ltb (m * up e * 1) (base * down e) (omega (arith, v.1, down_pos e)))
    (round_same binary64 true (base * down e - m * up e * 1) (down e * 1) (suc n) 1 (omega (arith, down_pos e)) (lit≤ tt) (omega (arith, v.1)))

-- ---- the two in turn

-- N / d, which is ±a / d + base, lies from 2^52 to 2^53
lifted : (s : Bool) (a d : ℕ) → 0 < d → 2 * a ≤ (2 * limit + 1) * d
    → let N = nat_abs (signed s a +ℤ pos (base * d)) in (pos N ≡ signed s a +ℤ pos (base * d)) × (2 ^ 52 * d ≤ N) × (N + d < 2 ^ 53 * d)
unfolding signed
lifted true a d p h = simp whole (omega arith)
lifted false a d p h = simp whole (omega arith)

-- near of the sum's exact value is near of q's and base, since base is even
pub shifted_is : (s : Bool) (m : ℕ) (e : ℤ) → 2 * (m * up e) ≤ (2 * limit + 1) * down e
    → sub binary64 (add binary64 (fin s m e) shift) shift ≡ of_int binary64 (near (signed s (m * up e)) (down e))
shifted_is s m e h =
    let v = signed s (m * up e) in
    let d = down e in
    let N = nat_abs (v +ℤ pos (base * d)) in
    let l = lifted s (m * up e) d (down_pos e) h in
    ap (λ x. sub binary64 x shift) (sum_is s m e N (omega (arith, l.1, down_pos e)) l.0)
    ∙ difference_is (round binary64 false N d) (closest N d) (near v d) (round_to_whole binary64 N d (down_pos e) l.1 l.2)
    (closest_near N d (down_pos e) ∙ ap (λ x. near x d) l.0 ∙ near_moved v d base (down_pos e) refl)
