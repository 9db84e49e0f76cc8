-- What the tests of `near_float` say of its quotient q: that the rules refuse it, or that its near is in range, and then that near is what the code returns.
use mathlib.Core.Path.{◌≡◌, refl}
use mathlib.Core.Bool.{Bool, true, false, ◌&&◌, ◌||◌, true≢false, false≢true}
use mathlib.Core.Option.{none, some}
use Prim.Native.Nat.{ℕ, ◌+◌, ◌*◌, ◌^◌, ◌≤◌, ◌<◌}
use native.Mathlib.Nat.{not-le_of_lt}
use native.Mathlib.Omega.{arith}
use native.Mathlib.Decide.{dec_lt}
use borrow.Author.Tests.{ltb-true, ltb-false, leb-true, leb-false, lt-ltb, le-ltb, le-leb, lt-leb, eq-eqb, ne_eqb}
use lib.Dec.{T, ltb, leb, eqb, le→leb, lt→ltb}
use lib.IntN.{ℤ, pos, negsuc, nat_abs}
use lib.Ieee.{Float, nan, inf, fin, binary64, up, down, add, sub, lt, le, of_int, to_signed, in_signed, in_float}
use lib.Ieee.Fits.{down_pos}
use lib.Ieee.Back.{positive_back, negative_back}
use mir.Syntax.{w64}
use mir.Val.{to_z, of_z}
use Rattle.machine.specs.Held.{read}
use Rattle.rules.specs.Grid.{limit, in_range}
use Rattle.rules.specs.Rounding.{near}
use Rattle.rules.specs.Level.{signed, near_float, kept}
use Rattle.float_near.proofs.Fraction.{out_of_range}
use Rattle.float_near.proofs.Shift.{shift, shifted_is}

-- the ends of the range: limit + 1/2, below zero where s is true
abbrev end : Bool → Float
end s = fin s (2 * limit + 1) (negsuc 0)

-- ---- what is refused

refused : (s : Bool) (m : ℕ) (e : ℤ) → (2 * limit + 1) * down e < 2 * (m * up e) → none ≡ kept (near_float (fin s m e))
unfolding near_float kept in_range
refused s m e h = rw (lt-leb (nat_abs (near (signed s (m * up e)) (down e))) limit ((out_of_range s (m * up e) (down e) (down_pos e)).1 h))

pub too_low : (q : Float) → lt q (end true) ≡ true → none ≡ kept (near_float q)
unfolding lt near_float kept
too_low nan h = refl
too_low (inf s) h = refl
too_low (fin true m e) h = refused true m e (omega (arith, ltb-true, h))
too_low (fin false m e) h = absurd (false≢true h)

-- what `<=` computes to, of two floats that are not below zero
at_most : (a b : ℕ) → (ltb a b || (eqb a b && true)) ≡ leb a b
at_most a b = go (dec_lt a b) (dec_lt b a)
  where
    go : Dec (a < b) → Dec (b < a) → (ltb a b || (eqb a b && true)) ≡ leb a b
    go (yes l) g = rw (lt-ltb a b l, le-leb a b (omega arith))
    go (no l) (yes g) = rw (le-ltb a b (omega arith), ne_eqb a b (omega arith), lt-leb a b g)
    go (no l) (no g) = rw (le-ltb a b (omega arith), eq-eqb a b (omega arith), le-leb a b (omega arith))

pub too_high : (q : Float) → le q (end false) ≡ false → none ≡ kept (near_float q)
unfolding le near_float kept
too_high nan h = refl
too_high (inf s) h = refl
too_high (fin true m e) h = absurd (true≢false (rw (lt-ltb 0 (m * up e * 2 + (2 * limit + 1) * 1 * down e) (omega (arith, down_pos e))) at h))
too_high (fin false m e) h = refused false m e (omega (arith, leb-false, rw at_most at h))

-- ---- what is kept

ranged : (s : Bool) (m : ℕ) (e : ℤ) → lt (fin s m e) (end true) ≡ false → le (fin s m e) (end false) ≡ true → 2 * (m * up e) ≤ (2 * limit + 1) * down e
unfolding lt le
ranged true m e l h = omega (arith, ltb-false, l)
ranged false m e l h = omega (arith, leb-true, rw at_most at h)

cast_back : (n : ℤ) → nat_abs n ≤ limit → T (in_signed binary64 63 (of_int binary64 n)) × (to_signed 63 (of_int binary64 n) ≡ n)
unfolding in_float
cast_back (pos n) h = positive_back binary64 63 n (le→leb n (2 ^ 53) (omega arith)) (omega arith)
cast_back (negsuc n) h = negative_back binary64 63 n (lt→ltb n (2 ^ 53) (omega arith)) (omega arith)

-- a cast of the float x loses nothing, and gives near of q
pub record Rounded (q x : Float) : Type 0 where
  pub exact : T (in_signed binary64 63 x)
  pub value : some (to_z w64 (of_z w64 (to_signed 63 x))) ≡ kept (near_float q)

pub rounded : (q : Float) → lt q (end true) ≡ false → le q (end false) ≡ true → Rounded q (sub binary64 (add binary64 q shift) shift)
unfolding lt le near_float kept in_range
rounded nan l h = absurd (false≢true h)
rounded (inf true) l h = absurd (true≢false l)
rounded (inf false) l h = absurd (false≢true h)
rounded (fin s m e) l h =
    let n = near (signed s (m * up e)) (down e) in
    let r = ranged s m e l h in
    let inside : ¬ (limit < nat_abs n) = λ g. not-le_of_lt ((out_of_range s (m * up e) (down e) (down_pos e)).0 g) r in
    let back = cast_back n (omega arith) in
    rw (shifted_is s m e r)
    (record { exact = back.0; value = rw ((read {B = limit} tt (record { is = back.1; size = omega arith })).is, le-leb (nat_abs n) limit (omega arith)) })
