-- Laws of f64: a value that the format holds is settled by its sign and its size, and 1 × x is x.
use Rattle.std.specs.Prelude.{◌≡◌, refl, Bool, true, false, ◌&&◌, cond, ℕ, zero, suc, ◌+◌, ◌-◌, ◌*◌, ◌/◌, ◌%◌, ◌^◌, ◌≤◌, ◌<◌, T, eqb, ltb, leb, ℤ, pos, negsuc, Float}
use Rattle.std.proofs.Common.{sym, ap, subst, ◌∙◌, mul_assoc, mul_right_comm, one-mul, mul-one, lt_of_not-le, not-le_of_lt, arith, eqb→eq, ltb→lt, leb→le, pow-add, pow_pos, shl_lt}
use Rattle.std.proofs.Math.Nat.{eq_of_mul-eq-mul_right}
use Rattle.std.proofs.Math.Pow.{pow-lt}
use Rattle.std.specs.Float.{nan, inf, fin, binary64}
use Rattle.std.specs.Float.Ieee.{prec, emax, low, up, down, size, fits, round, odd, units, mul, of_int, of_bits, to_bits, top, hid, unlike}
use Rattle.std.specs.Float.Ieee.Bits.{of_bits-to_bits}
use Rattle.std.specs.Float.Ieee.Exact.{HasValue, round_exact}
use Rattle.std.specs.Float.Ieee.Fits.{and_l, and_r, down_pos, round-fits}
use Rattle.std.specs.Float.Ieee.Nearest.{div_same}
use Rattle.rules.specs.Level.{◌⊗◌, float}

-- ---- one value for a sign and a size

-- m × up / down and m' × up' / down' are one fraction
cross : (a c x d y e : ℕ) → 0 < c → x * c ≡ a * d → y * c ≡ a * e → x * e ≡ y * d
cross a c x d y e some g h =
    eq_of_mul-eq-mul_right c some (x * e) (y * d)
    (mul_right_comm x e c ∙ ap (λ k. k * e) g ∙ mul_right_comm a d e ∙ ap (λ k. k * d) (sym h) ∙ mul_right_comm y c d)

same_bits : (s : Bool) (m n : ℕ) (d e : ℤ) (a c : ℕ) → 0 < c → m * up d * c ≡ a * down d → n * up e * c ≡ a * down e
    → to_bits binary64 (fin s m d) ≡ to_bits binary64 (fin s n e)
unfolding to_bits
same_bits s m n d e a c some g h = ap bits whole
  where
    bits : ℕ → ℕ
    bits v = let k = size v - prec binary64 in cond s (top binary64) 0 + k * hid binary64 + v / 2 ^ k

    whole : m * up d * 2 ^ low binary64 / down d ≡ n * up e * 2 ^ low binary64 / down e
    whole =
        div_same (m * up d * 2 ^ low binary64) (down d) (n * up e * 2 ^ low binary64) (down e) (down_pos d) (down_pos e)
        (mul_right_comm (m * up d) (2 ^ low binary64) (down e)
        ∙ ap (λ k. k * 2 ^ low binary64) (cross a c (m * up d) (down d) (n * up e) (down e) some g h)
        ∙ mul_right_comm (n * up e) (down d) (2 ^ low binary64))

pub value_unique : (x y : Float) (s : Bool) (a c : ℕ) → 0 < c → T (fits binary64 x) → T (fits binary64 y) → HasValue x s a c → HasValue y s a c → x ≡ y
value_unique nan y s a c some f g v w = absurd v
value_unique (inf t) y s a c some f g v w = absurd v
value_unique (fin t m d) nan s a c some f g v w = absurd w
value_unique (fin t m d) (inf u) s a c some f g v w = absurd w
value_unique (fin t m d) (fin u n e) s a c some f g v w =
    let sign : t ≡ u = v.0 ∙ sym w.0 in
    sym (of_bits-to_bits binary64 (fin t m d) f)
    ∙ ap (of_bits binary64) (ap (λ b. to_bits binary64 (fin b m d)) sign ∙ same_bits u m n d e a c some v.1 w.1)
    ∙ of_bits-to_bits binary64 (fin u n e) g

-- ---- 1 × x

-- the three bounds of a value that the format holds
record Bounds (m : ℕ) (e : ℤ) : Type 0 where
  digits : m < 2 ^ prec binary64
  least : down e ≤ 2 ^ low binary64
  most : m * up e < 2 ^ suc (emax binary64) * down e

bounds : (s : Bool) (m : ℕ) (e : ℤ) → T (fits binary64 (fin s (suc m) e)) → Bounds (suc m) e
unfolding fits
bounds s m e f =
    let odd = eqb (suc m % 2) 1 in
    let digits = ltb (suc m) (2 ^ prec binary64) in
    let least = leb (down e) (2 ^ low binary64) in
    let most = ltb (suc m * up e) (2 ^ suc (emax binary64) * down e) in
    let but-most = and_l (odd && digits && least) most f in
    record {
      digits = ltb→lt _ _ (and_r odd digits (and_l (odd && digits) least but-most));
      least = leb→le _ _ (and_r (odd && digits) least but-most);
      most = ltb→lt _ _ (and_r (odd && digits && least) most f);
    }

-- it is not rounded
exact_at : (s : Bool) (m : ℕ) (e : ℤ) → Bounds m e → HasValue (round binary64 s (m * up e) (down e)) s (m * up e) (down e)
exact_at s m (pos k) b =
    let l = low binary64 in
    let parts : m * 2 ^ (k + l) ≡ m * 2 ^ k * 2 ^ l = ap (λ v. m * v) (pow-add 2 k l) ∙ sym (mul_assoc m (2 ^ k) (2 ^ l)) in
    let fine : m * 2 ^ k * 2 ^ l < 2 ^ (suc (emax binary64) + l) = shl_lt (suc (emax binary64)) l (subst (λ v. m * 2 ^ k < v) (mul-one _) b.most) in
    round_exact binary64 s (m * 2 ^ k) 1 m (k + l) (omega arith) b.digits (rw parts fine) (sym (mul-one _ ∙ parts))
exact_at s m (negsuc k) b =
    let l = low binary64 in
    let j = l - suc k in
    let shift : j + suc k ≡ l = omega (arith, small) in
    let den : m * 1 * 2 ^ l ≡ m * 2 ^ j * 2 ^ suc k = rw (mul-one m) (ap (λ v. m * 2 ^ v) (sym shift) ∙ ap (λ v. m * v) (pow-add 2 j (suc k)) ∙ sym (mul_assoc m (2 ^ j) (2 ^ suc k))) in
    let top : m < 2 ^ (suc (emax binary64) + suc k) = rw (pow-add 2 (suc (emax binary64)) (suc k)) (subst (λ v. v < 2 ^ suc (emax binary64) * 2 ^ suc k) (mul-one m) b.most) in
    let reach : suc (emax binary64) + suc k + j ≡ l + suc (emax binary64) = omega (arith, shift) in
    round_exact binary64 s (m * 1) (2 ^ suc k) m j (pow_pos (suc k)) b.digits (subst (λ v. m * 2 ^ j < 2 ^ v) reach (shl_lt (suc (emax binary64) + suc k) j top)) den
  where
    small : suc k ≤ low binary64
    small = lt_of_not-le (λ h. not-le_of_lt (pow-lt {i = low binary64} {j = suc k} (omega arith)) b.least)

like : (s : Bool) → unlike false s ≡ s
like true = refl
like false = refl

zero_at : (s : Bool) (e : ℤ) → up e * down e ≡ 1 → fin s 0 e ≡ fin s 0 (pos 0)
zero_at s (pos zero) h = refl
zero_at s (pos (suc k)) h = absurd (omega (arith, pow-lt {i = 0} {j = suc k} (omega arith)))
zero_at s (negsuc k) h = absurd (omega (arith, pow-lt {i = 0} {j = suc k} (omega arith)))

pub one_times : (x : Float) → T (fits binary64 x) → float (pos 1) ⊗ x ≡ x
unfolding mul of_int round size units odd fits
one_times nan f = refl
one_times (inf false) f = refl
one_times (inf true) f = refl
one_times (fin false zero e) f = let z = zero_at false e (eqb→eq _ 1 f) in ap (λ x. float (pos 1) ⊗ x) z ∙ sym z
one_times (fin true zero e) f = let z = zero_at true e (eqb→eq _ 1 f) in ap (λ x. float (pos 1) ⊗ x) z ∙ sym z
one_times (fin s (suc m) e) f =
    rw (like s, one-mul (suc m * up e), one-mul (down e))
    (value_unique (round binary64 s (suc m * up e) (down e)) (fin s (suc m) e) s (suc m * up e) (down e) (down_pos e) (round-fits binary64 s (suc m * up e) (down e)) f (exact_at s (suc m) e (bounds s m e f)) (refl, refl))
