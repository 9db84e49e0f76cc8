-- "Fitting one level" of document 01, with the confidence of document 02's job 8: "All in f64, each operation rounded once, in this order". Definitions only.
use Rattle.std.specs.Prelude.{ℕ, ◌+◌, ◌-◌, ◌*◌, Bool, true, false, ◌&&◌, cond, List, [], ◌∷◌, leb, ltb, ℤ, pos, neg_ℤ, Float}
use Rattle.std.proofs.Math.Option.{Option, none, some}
use Rattle.std.specs.Float.{nan, inf, fin, binary64}
use Rattle.std.specs.Float.Ieee.{add, mul, div, lt, of_int, of_bits, up, down}
use Rattle.rules.specs.Rounding.{near}
use Rattle.rules.specs.Grid.{in_range}
use Rattle.rules.specs.Surface.{numerator, denominator, cell, offset}

-- ---- the operations of f64

infixl 6 ◌⊕◌
infixl 7 ◌⊗◌ ◌⊘◌
abbrev pub ◌⊕◌ : Float → Float → Float
◌⊕◌ = add binary64

abbrev pub ◌⊗◌ : Float → Float → Float
◌⊗◌ = mul binary64

abbrev pub ◌⊘◌ : Float → Float → Float
◌⊘◌ = div binary64

abbrev pub float : ℤ → Float
float = of_int binary64

-- +0
abbrev pub zero64 : Float
zero64 = of_bits binary64 0

-- ---- a point's weights

-- "a point at (x, y) with value z", and of document 02 "A point gains a confidence q, 1 to 255"
pub record Point : Type 0 where
  pub x : ℕ
  pub y : ℕ
  pub z : ℤ
  pub q : ℕ

-- "Bk and Cl are numerator divided by 6U³, for x and y"
unfoldable pub basis : ℕ → ℕ → ℕ → Float
basis U a k = float (numerator (pos U) (pos a) k) ⊘ float (pos (denominator U))

-- "The sixteen weights form a four by four block, w = Bk × Cl"
unfoldable pub weight : ℕ → ℕ → ℕ → Point → ℕ → ℕ → Float
weight U m n p k l = basis U (offset U m p.x) k ⊗ basis U (offset U n p.y) l

-- "S adds w × w from 0, k outer, l inner"
unfoldable pub add_squares : (ℕ → Float) → Float → Float
add_squares w s = s ⊕ w 0 ⊗ w 0 ⊕ w 1 ⊗ w 1 ⊕ w 2 ⊗ w 2 ⊕ w 3 ⊗ w 3

unfoldable pub squares : (ℕ → ℕ → Float) → Float
squares w = add_squares (w 3) (add_squares (w 2) (add_squares (w 1) (add_squares (w 0) zero64)))

-- ---- the sums of a control value

-- "Each control value gathers two running sums, from 0"
pub record Sums : Type 0 where
  pub first : Float
  pub second : Float

unfoldable pub no_sums : Sums
no_sums = record { first = zero64; second = zero64 }

-- "The two sums grow by (q × (w × w)) × ((w × z) / S) and q × (w × w), q as f64"
unfoldable pub grown : Float → Float → Float → Float → Sums → Sums
grown q w z S sums = record { first = sums.first ⊕ (q ⊗ (w ⊗ w)) ⊗ ((w ⊗ z) ⊘ S); second = sums.second ⊕ q ⊗ (w ⊗ w) }

-- the four control values that a cell uses along an axis have the one at place s among them: "Cell c uses control indices c-1 to c+2"
unfoldable pub uses : ℕ → ℕ → Bool
uses c s = leb c s && ltb s (c + 4)

-- what one point adds to the sums of the control value in column s and row t: nothing, where its cell does not use that value
unfoldable pub touched : ℕ → ℕ → ℕ → ℕ → ℕ → Point → Sums → Sums
touched U m n s t p sums =
    let c = cell U m p.x in
    let r = cell U n p.y in
    let w = weight U m n p in
    cond (uses c s && uses r t) (grown (float (pos p.q)) (w (s - c) (t - r)) (float p.z) (squares w) sums) sums

-- "points in list order"
unfoldable pub gathered : ℕ → ℕ → ℕ → ℕ → ℕ → List Point → Sums → Sums
gathered U m n s t [] sums = sums
gathered U m n s t (p ∷ ps) sums = gathered U m n s t ps (touched U m n s t p sums)

-- ---- the control value

-- "Then a control value is either fitted, with its quotient first over second, where the second sum is above 0, or untouched"
pub data Coefficient : Type 0 where
  fitted : Float → Coefficient
  untouched : Coefficient

unfoldable pub coefficient : Sums → Coefficient
coefficient sums = cond (lt zero64 sums.second) (fitted (sums.first ⊘ sums.second)) untouched

-- a whole number with the sign of a float: negative where s is true
unfoldable pub signed : Bool → ℕ → ℤ
signed true n = neg_ℤ (pos n)
signed false n = pos n

-- "near of its exact value": fin s m e is the number m × 2^e, the fraction up e / down e. What is no number has none.
unfoldable pub near_float : Float → Option ℤ
near_float nan = none
near_float (inf s) = none
near_float (fin s m e) = some (near (signed s (m * up e)) (down e))

-- a value, where there is one and it is in range
unfoldable pub kept : Option ℤ → Option ℤ
kept none = none
kept (some z) = cond (in_range z) (some z) none

-- "untouched, which counts as 0. The quotient becomes near of its exact value; a quotient that is no number or rounds out of range is refused"
unfoldable pub settled : Coefficient → Option ℤ
settled untouched = some (pos 0)
settled (fitted q) = kept (near_float q)

-- the control value in column s and row t of the level lattice of m by n cells of U positions, fitted to the points; none where it is refused
unfoldable pub fitted_at : ℕ → ℕ → ℕ → List Point → ℕ → ℕ → Option ℤ
fitted_at U m n points s t = settled (coefficient (gathered U m n s t points no_sums))
