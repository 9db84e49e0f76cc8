-- Laws of f64 values that are opposite up to the sign of a zero, as x - x is +0 whichever way round: the operations of a level keep them so, and near of
-- the one is the negative of near of the other.
use Rattle.std.specs.Prelude.{◌≡◌, refl, Bool, true, false, not, cond, leb, ltb, ℤ, pos, negsuc, neg_ℤ, ◌+ℤ◌, Float}
use Rattle.std.proofs.Common.{sym, ap, ap₂, ◌∙◌, true≢false, mul_comm, arith, ltb-true, ltb-false}
use Rattle.std.proofs.lemmas.Bool.{false≢true}
use Rattle.std.proofs.Math.Option.{Option, none, some, map}
use Prim.Native.Nat.{ℕ, zero, suc, ◌+◌, ◌-◌, ◌*◌, ◌/◌, ◌%◌, ◌^◌, compare}
use Rattle.std.proofs.Math.Dec.{eqb-suc-zero}
use Rattle.std.proofs.Math.IntN.{neg_ℤ-neg_ℤ, neg_ℤ-+ℤ}
use Rattle.std.specs.Float.{nan, inf, fin, binary64}
use Rattle.std.specs.Float.Ieee.{prec, emax, low, up, down, size, nearest, odd, units, round, sum, add, mul, div, unlike, of_int}
use Rattle.std.specs.Float.Ieee.Fits.{down_pos}
use Rattle.std.specs.Float.Ieee.Positive.{first_pos}
use Rattle.std.specs.Float.Ieee.Scale.{round_same}
use Rattle.algebra.specs.Difference.{whole}
use Rattle.algebra.specs.Size.{nat_abs_neg}
use Rattle.rules.specs.Grid.{limit, in_range}
use Rattle.rules.specs.Level.{◌⊕◌, ◌⊗◌, ◌⊘◌, float, fitted, signed, near_float, kept, settled}
use Rattle.rules.proofs.Laws.Rounding.{near_odd}
use Rattle.rules.specs.Laws.Opposite.{Turned, Opposite, infinities, nans, numbers}

-- ---- rounding

round_zero : (s : Bool) (c : ℕ) → round binary64 s 0 c ≡ fin s 0 (pos 0)
unfolding round size units odd
round_zero s zero = refl
round_zero s (suc c) = round_same binary64 s 0 (suc c) 0 1 (omega arith) (omega arith) (omega arith)

units_odd : (s : Bool) (q k : ℕ) → Opposite (units binary64 s q k) (units binary64 (not s) q k)
unfolding units odd
units_odd s q k = by (ltb (q * 2 ^ k) (2 ^ (low binary64 + suc (emax binary64)))) q
  where
    units_of : Bool → ℕ → Bool → Float
    units_of small q s = cond small (odd (suc (prec binary64)) s q k (low binary64)) (inf s)

    by : (small : Bool) (q : ℕ) → Opposite (units_of small q s) (units_of small q (not s))
    by true zero = numbers s (not s) 0 (pos 0) (λ l. refl)
    by true (suc q) = numbers s (not s) _ _ (λ l. refl)
    by false q = infinities s

round_odd : (s t : Bool) (n c : ℕ) → Turned s t n → Opposite (round binary64 s n c) (round binary64 t n c)
unfolding round
round_odd s t zero c h = rw (round_zero s c, round_zero t c) (numbers s t 0 (pos 0) h)
round_odd s t (suc n) c h =
    let v = suc n * 2 ^ low binary64 in
    let k = size (v / c) - prec binary64 in
    let u = c * 2 ^ k in
    rw (h (omega arith)) (units_odd s (nearest (v / u) (compare (v % u * 2) u)) k)

-- ---- sums

-- a float is v / c rounded, where a v of 0 may have either sign
data Rounded (v : ℤ) (c : ℕ) : Float → Type 0 where
  rounded : (s : Bool) (n : ℕ) → signed s n ≡ v → Rounded v c (round binary64 s n c)

sum_rounded : (s t : Bool) (a b c : ℕ) → Rounded (signed s a +ℤ signed t b) c (sum binary64 s a t b c)
unfolding sum signed
sum_rounded false false a b c = rounded false (a + b) refl
sum_rounded true true a b c = rounded true (a + b) (neg_ℤ-+ℤ (pos a) (pos b))
sum_rounded false true a b c = by (ltb a b) refl
  where
    by : (less : Bool) → ltb a b ≡ less → Rounded (pos a +ℤ neg_ℤ (pos b)) c (cond less (round binary64 true (b - a) c) (round binary64 false (a - b) c))
    by true e = rounded true (b - a) (simp whole (omega (arith, ltb-true)))
    by false e = rounded false (a - b) (simp whole (omega (arith, ltb-false)))
sum_rounded true false a b c = by (ltb a b) (ltb b a) refl refl
  where
    by : (less more : Bool) → ltb a b ≡ less → ltb b a ≡ more
        → Rounded (neg_ℤ (pos a) +ℤ pos b) c (cond less (round binary64 false (b - a) c) (round binary64 more (a - b) c))
    by true more e f = rounded false (b - a) (simp whole (omega (arith, ltb-true)))
    by false true e f = rounded true (a - b) (simp whole (omega (arith, ltb-false)))
    by false false e f = rounded false (a - b) (simp whole (omega (arith, ltb-false)))

signed_turned : (s t : Bool) (a : ℕ) → Turned s t a → signed t a ≡ neg_ℤ (signed s a)
unfolding signed
signed_turned true false a h = sym (neg_ℤ-neg_ℤ (pos a))
signed_turned false true a h = refl
signed_turned true true zero h = refl
signed_turned true true (suc a) h = absurd (true≢false (h (omega arith)))
signed_turned false false zero h = refl
signed_turned false false (suc a) h = absurd (false≢true (h (omega arith)))

turned_signed : (s t : Bool) (a b : ℕ) → signed t b ≡ neg_ℤ (signed s a) → (b ≡ a) × Turned s t a
unfolding signed
turned_signed true false a b e = let z = simp whole at e in (omega arith, λ l. refl)
turned_signed false true a b e = let z = simp whole at e in (omega arith, λ l. refl)
turned_signed true true a b e = let z = simp whole at e in (omega arith, λ l. absurd (omega arith))
turned_signed false false a b e = let z = simp whole at e in (omega arith, λ l. absurd (omega arith))

opposite_rounded : {v : ℤ} {c : ℕ} {x y : Float} → Rounded v c x → Rounded (neg_ℤ v) c y → Opposite x y
opposite_rounded {c = c} (rounded s m e) (rounded t n f) =
    let h = turned_signed s t m n (f ∙ ap neg_ℤ (sym e)) in
    rw h.0 (round_odd s t m c h.1)

sum_odd : (s s' t t' : Bool) (a b c : ℕ) → Turned s s' a → Turned t t' b → Opposite (sum binary64 s a t b c) (sum binary64 s' a t' b c)
sum_odd s s' t t' a b c h k =
    let e = ap₂ ◌+ℤ◌ (signed_turned s s' a h) (signed_turned t t' b k) ∙ sym (neg_ℤ-+ℤ (signed s a) (signed t b)) in
    opposite_rounded (sum_rounded s t a b c) (rw e at (sum_rounded s' t' a b c))

infinite_sum : (s t : Bool) → Opposite (inf s ⊕ inf t) (inf (not s) ⊕ inf (not t))
unfolding add
infinite_sum true true = infinities true
infinite_sum true false = nans
infinite_sum false true = nans
infinite_sum false false = infinities false

pub opposite_sum : {x x' y y' : Float} → Opposite x x' → Opposite y y' → Opposite (x ⊕ y) (x' ⊕ y')
unfolding add
opposite_sum nans q = nans
opposite_sum (infinities s) nans = nans
opposite_sum (infinities s) (infinities t) = infinite_sum s t
opposite_sum (infinities s) (numbers t t' n d k) = infinities s
opposite_sum (numbers s s' m e h) nans = nans
opposite_sum (numbers s s' m e h) (infinities t) = infinities t
opposite_sum (numbers s s' m e h) (numbers t t' n d k) =
    sum_odd s s' t t' (m * up e * down d) (n * up d * down e) (down e * down d)
    (λ l. h (first_pos m (up e) (first_pos (m * up e) (down d) l))) (λ l. k (first_pos n (up d) (first_pos (n * up d) (down e) l)))

-- ---- products and quotients

unlike_not : (r s : Bool) → unlike r (not s) ≡ not (unlike r s)
unlike_not true true = refl
unlike_not true false = refl
unlike_not false true = refl
unlike_not false false = refl

not_unlike : (s r : Bool) → unlike (not s) r ≡ not (unlike s r)
not_unlike true true = refl
not_unlike true false = refl
not_unlike false true = refl
not_unlike false false = refl

pub opposite_product : (w : Float) {x y : Float} → Opposite x y → Opposite (w ⊗ x) (w ⊗ y)
unfolding mul
opposite_product nan o = nans
opposite_product (inf r) nans = nans
opposite_product (inf r) (infinities s) = rw (unlike_not r s) (infinities (unlike r s))
opposite_product (inf r) (numbers s t zero e h) = nans
opposite_product (inf r) (numbers s t (suc m) e h) = rw (eqb-suc-zero m, h (omega arith), unlike_not r s) (infinities (unlike r s))
opposite_product (fin r n d) nans = nans
opposite_product (fin r zero d) (infinities s) = nans
opposite_product (fin r (suc n) d) (infinities s) = rw (eqb-suc-zero n, unlike_not r s) (infinities (unlike r s))
opposite_product (fin r n d) (numbers s t m e h) =
    round_odd (unlike r s) (unlike r t) (n * up d * (m * up e)) (down d * down e)
    (λ l. ap (unlike r) (h (first_pos m (up e) (first_pos (m * up e) (n * up d) (rw (mul_comm (m * up e) (n * up d)) l)))) ∙ unlike_not r s)

pub opposite_quotient : (S : Float) {x y : Float} → Opposite x y → Opposite (x ⊘ S) (y ⊘ S)
unfolding div
opposite_quotient S nans = nans
opposite_quotient nan (infinities s) = nans
opposite_quotient (inf r) (infinities s) = nans
opposite_quotient (fin r n d) (infinities s) = rw (not_unlike s r) (infinities (unlike s r))
opposite_quotient nan (numbers s t m e h) = nans
opposite_quotient (inf r) (numbers s t m e h) = numbers (unlike s r) (unlike t r) 0 (pos 0) (λ l. absurd (omega arith))
opposite_quotient (fin r zero d) (numbers s t zero e h) = nans
opposite_quotient (fin r zero d) (numbers s t (suc m) e h) = rw (eqb-suc-zero m, h (omega arith), not_unlike s r) (infinities (unlike s r))
opposite_quotient (fin r (suc n) d) (numbers s t m e h) =
    rw (eqb-suc-zero n)
    (round_odd (unlike s r) (unlike t r) (m * up e * down d) (suc n * up d * down e)
    (λ l. ap (λ s. unlike s r) (h (first_pos m (up e) (first_pos (m * up e) (down d) l))) ∙ not_unlike s r))

-- ---- whole numbers

pub opposite_float : (z : ℤ) → Opposite (float z) (float (neg_ℤ z))
unfolding of_int
opposite_float (pos zero) = round_odd false false 0 1 (λ l. absurd (omega arith))
opposite_float (pos (suc n)) = round_odd false true (suc n) 1 (λ l. refl)
opposite_float (negsuc n) = round_odd true false (suc n) 1 (λ l. refl)

pub opposite_near : {x y : Float} → Opposite x y → near_float y ≡ map neg_ℤ (near_float x)
unfolding near_float
opposite_near nans = refl
opposite_near (infinities s) = refl
opposite_near (numbers s t m e h) =
    let turned = signed_turned s t (m * up e) (λ l. h (first_pos m (up e) l)) in
    ap some (rw turned (near_odd (signed s (m * up e)) (down e) (down_pos e)))

-- a value and its negative are in range alike
pub range_odd : (z : ℤ) → in_range (neg_ℤ z) ≡ in_range z
unfolding in_range
range_odd z = ap (λ n. leb n limit) (nat_abs_neg z)

opposite_kept : (o : Option ℤ) → kept (map neg_ℤ o) ≡ map neg_ℤ (kept o)
unfolding kept
opposite_kept none = refl
opposite_kept (some z) = rw (range_odd z) (by (in_range z))
  where
    by : (b : Bool) → cond {A = Option ℤ} b (some (neg_ℤ z)) none ≡ map neg_ℤ (cond {A = Option ℤ} b (some z) none)
    by true = refl
    by false = refl

pub opposite_settled : {x y : Float} → Opposite x y → settled (fitted y) ≡ map neg_ℤ (settled (fitted x))
unfolding settled
opposite_settled {x} o = ap kept (opposite_near o) ∙ opposite_kept (near_float x)
