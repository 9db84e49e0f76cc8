-- From 2 ^ (prec - 1) to 2 ^ prec a format's values are the whole numbers: there `round` gives the nearest whole number, at an exact half the even one.
use mathlib.Core.Path.{◌≡◌}
use mathlib.Core.Bool.{Bool, true, false, not, false≢true}
use Prim.Native.Nat.{ℕ, ◌+◌, ◌-◌, ◌*◌, ◌/◌, ◌%◌, ◌^◌, ◌≤◌, ◌<◌, compare, Ordering}
use native.Mathlib.Nat.{div-add-mod, mod-lt, mul-pos, mul-le-mul_right, mul-lt-mul_of_pos_right, lt_of_mul-lt-mul_right, lt_of_lt_of_le, lt_of_not-le, not-le_of_lt, eq_of_mul-eq-mul_right, div-lt_iff_lt-mul, le-div_iff_mul-le}
use native.Mathlib.Omega.{arith}
use borrow.Author.Tests.{eq-eqb}
use lib.Dec.{T, is_le, compare_is_eq, lit≤, leb→le, nleb→lt, eqb→eq}
use lib.Pow.{pow-add, pow_pos, pow_mono, shl_lt}
use lib.IntN.{pos}
use lib.Ieee.{Float, nan, inf, fin, Format, prec, low, up, down, size, nearest, round}
use lib.Ieee.Digits.{size-lt, size-le}
use lib.Ieee.Fits.{two, reach, round_is}
use lib.Ieee.Exact.{HasValue, units_val}
use lib.Ieee.Nearest.{closest, closest_same}
use Rattle.algebra.specs.Difference.{whole}
use Rattle.rules.specs.Laws.Rounding.{Nearest, Tie}

-- ---- the nearest whole number to a / b: with a remainder of b / 2 it is the even one

pub closest_nearest : (a b : ℕ) → 0 < b → Nearest (pos a) b (pos (closest a b))
unfolding Tie
closest_nearest a b p = go (compare (r * 2) b) (leb→le (r * 2) b) (nleb→lt (r * 2) b) (eqb→eq (r * 2) b) (eq-eqb (r * 2) b)
  where
    w : ℕ
    w = a / b

    r : ℕ
    r = a % b

    go : (o : Ordering) → (T (is_le o) → r * 2 ≤ b) → (T (not (is_le o)) → b < r * 2) → (T (compare_is_eq o) → r * 2 ≡ b) → (r * 2 ≡ b → compare_is_eq o ≡ true)
        → Nearest (pos a) b (pos (nearest w o))
    go Ordering.lt l g e h = record {
      distance = simp whole (omega (arith, div-add-mod a b, l tt));
      tie = simp whole (λ k. absurd (false≢true (h (omega (arith, div-add-mod a b)))));
    }
    go Ordering.eq l g e h = record {
      distance = simp whole (omega (arith, div-add-mod a b, e tt, mul-le-mul_right b (mod-lt w {m = 2} (lit≤ tt))));
      tie = omega arith;
    }
    go Ordering.gt l g e h = record {
      distance = simp whole (omega (arith, div-add-mod a b, g tt, mod-lt a p));
      tie = simp whole (omega (arith, div-add-mod a b, g tt, mod-lt a p));
    }

-- ---- where `round` has the unit 1

size_gt : (n j : ℕ) → 2 ^ j ≤ n → j < size n
size_gt n j h = lt_of_not-le (λ g. not-le_of_lt (lt_of_lt_of_le (size-lt n) (pow_mono g)) h)

-- in units of the format's smallest value such a fraction has prec + low digits before the point, of which `round` drops all but prec
digits_dropped : (f : Format) (a c : ℕ) → 0 < c → 2 ^ (prec f - 1) * c ≤ a → a < 2 ^ prec f * c → size (a * 2 ^ low f / c) - prec f ≡ low f
digits_dropped f a c p g h =
    let l = low f in
    let z = size (a * 2 ^ l / c) in
    let most : z ≤ prec f + l = size-le (a * 2 ^ l / c) (prec f + l) ((div-lt_iff_lt-mul p).1 (rw (pow-add 2 (prec f) l) (omega (arith, mul-lt-mul_of_pos_right h (pow_pos l))))) in
    let least : prec f - 1 + l < z = size_gt (a * 2 ^ l / c) (prec f - 1 + l) ((le-div_iff_mul-le p).1 (rw (pow-add 2 (prec f - 1) l) (omega (arith, mul-le-mul_right (2 ^ l) g)))) in
    omega (arith, two f)

reduced : (x : Float) (s : Bool) (n l : ℕ) → HasValue x s (n * 2 ^ l) (2 ^ l) → HasValue x s n 1
reduced nan s n l v = elim v [ ]
reduced (inf _) s n l v = elim v [ ]
reduced (fin t m e) s n l v = (v.0, eq_of_mul-eq-mul_right (2 ^ l) (pow_pos l) (m * up e * 1) (n * down e) (omega (arith, v.1)))

-- below 2 ^ prec by 1 at least, so that what is rounded up is still below it
pub round_to_whole : (f : Format) (a c : ℕ) → 0 < c → 2 ^ (prec f - 1) * c ≤ a → a + c < 2 ^ prec f * c → HasValue (round f false a c) false (closest a c) 1
round_to_whole f a c p g h =
    let l = low f in
    let dropped = digits_dropped f a c p g (omega arith) in
    let same : closest (a * 2 ^ l) (c * 2 ^ l) ≡ closest a c = closest_same (a * 2 ^ l) (c * 2 ^ l) a c (mul-pos p (pow_pos l)) p (omega arith) in
    let less : closest a c < 2 ^ prec f = lt_of_mul-lt-mul_right c (omega (arith, simp whole at (closest_nearest a c p).distance)) in
    reduced (round f false a c) false (closest a c) l
    (rw (round_is f false a c, dropped, same) (units_val f false (closest a c) l (lt_of_lt_of_le (shl_lt (prec f) l less) (pow_mono (omega (arith, reach f))))))
