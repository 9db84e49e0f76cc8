-- The code's sums as the rules have them: four products of numerators and values are the sum along an axis, and what a height is read
-- from is stored and in range.
use Rattle.std.specs.Prelude.{◌≡◌, List, ℕ, ◌+◌, ◌*◌, ◌%◌, ◌^◌, ◌≤◌, ◌<◌, ℤ, pos, nat_abs, get_or}
use Rattle.std.proofs.Common.{ap, ◌∙◌, add-zero, le_trans, le_of_eq, mod-eq_of_lt, mul-le-mul, mul-le-mul_left, mul-le-mul_right, arith, pow_pos, pow_mono, to_z, of_z}
use Rattle.std.specs.Int.Signed.{mag}
use Rattle.std.specs.Int.{w64}
use Rattle.machine.specs.Held.{Held, read, returned, small}
use Rattle.rules.specs.Rounding.{near}
use Rattle.rules.specs.Grid.{controls, control}
use Rattle.rules.specs.Surface.{numerator, denominator, cell, offset, weighted, along, height}
use Rattle.rules.proofs.Laws.Rounding.{near_within}
use Rattle.rules.proofs.Laws.Basis.{weighted_values, weighted_bound, numerators_size, cell_below, offset_within, along_bound}
use Rattle.rules.proofs.Laws.Surface.{denominator_positive, place_below, control_within}
use Rattle.basis.specs.Weighing.{Holds, Located, four, numerators, weight_size, spaced, Summable, Weighable, line_height, Grounded, Readable}
use Rattle.basis.specs.declared.Basis.{Basis}
use Rattle.basis.specs.declared.Spot.{Spot}

-- ---- along one axis

-- the position x lies on m cells of U positions, with U as large as any that is listed
pub record On (U m x : ℕ) : Type 0 where
  pub unit : 0 < U
  pub unit_most : U ≤ 512
  pub cells : 0 < m
  pub inside : x ≤ U * m

-- what the code has of a position: its cell, and four weights w of the offset there
pub record Placed (w : ℤ → ℤ → ℕ → ℤ) (U m x : ℕ) (b : Basis) (c : ℕ) : Type 0 where
  pub weighs : Holds b (w (pos U) (pos (offset U m x)))
  pub cell_is : c ≡ cell U m x

-- its numerators
abbrev pub Based : ℕ → ℕ → ℕ → Basis → ℕ → Type 0
Based U m x b c = Placed numerator U m x b c

pub on_grid : (e m x : ℕ) → e ≤ 9 → 0 < m → x ≤ 2 ^ e * m → On (2 ^ e) m x
on_grid e m x h k l = record { unit = pow_pos e; unit_most = pow_mono {j = 9} h; cells = k; inside = l }

pub offset_most : {U m x : ℕ} → On U m x → offset U m x ≤ U
offset_most {U} {m} {x} o = offset_within U m x o.unit o.cells o.inside

pub placed_below : {w : ℤ → ℤ → ℕ → ℤ} {U m x : ℕ} {b : Basis} {c : ℕ} → On U m x → Placed w U m x b c → c < m
placed_below {w} {U} {m} {x} o p = rw p.cell_is (cell_below U m x o.cells)

-- nothing of the unit U is lost where the code shifts 1 to it
pub unit_shifted : {U m x : ℕ} → On U m x → 1 * U % 2 ^ 64 ≡ U
unit_shifted {U} o = mod-eq_of_lt {n = 1 * U} {m = 2 ^ 64} (omega (arith, o.unit_most)) ∙ omega arith

-- what `basis_of` asks of a position, and what it and `locate` tell of it
module _ {U unit m x : ℕ} {p : Spot} (is : unit ≡ U) (o : On U m x) (found : Located p U m x) where
  pub basis_asked : (unit ≤ 512) × (p.offset ≤ unit)
  basis_asked = rw (is, found.offset_is) (o.unit_most, offset_most o)

  pub placed : {w : ℤ → ℤ → ℕ → ℤ} {b : Basis} → Holds b (w (pos unit) (pos p.offset)) → Placed w U m x b p.cell
  placed h = record { weighs = rw (is, found.offset_is) at h; cell_is = found.cell_is }

-- no numerator is negative, so their sizes add up to 6U³
weight_is : {U m x : ℕ} {b : Basis} {c : ℕ} → On U m x → Based U m x b c → weight_size b ≡ denominator U
weight_is {U} {m} {x} o p = let w = p.weighs in rw (w.n0, w.n1, w.n2, w.n3) (numerators_size U (offset U m x) (offset_most o))

-- 6U³ at the largest U
denominator_most : (U : ℕ) → U ≤ 512 → denominator U ≤ 805_306_368
unfolding denominator
denominator_most U h = mul-le-mul_left 6 (mul-le-mul (mul-le-mul h h) h)

pub weight_most : {U m x : ℕ} {b : Basis} {c : ℕ} → On U m x → Based U m x b c → weight_size b ≤ 805_306_368
weight_most {U} o p = rw (weight_is o p) (denominator_most U o.unit_most)

-- the code's sum of four is that of the weights
pub weighted_placed : {w : ℤ → ℤ → ℕ → ℤ} {U m x : ℕ} {b : Basis} {c : ℕ} → Placed w U m x b c → (f : ℕ → ℤ)
    → weighted (numerators b) f c ≡ weighted (w (pos U) (pos (offset U m x))) f (cell U m x)
unfolding weighted
weighted_placed p f = let h = p.weighs in rw (p.cell_is, h.n0, h.n1, h.n2, h.n3)

pub along_weighted : {U m x : ℕ} {b : Basis} {c : ℕ} → Based U m x b c → (f : ℕ → ℤ) → weighted (numerators b) f c ≡ along U m x f
unfolding along
along_weighted p f = weighted_placed p f

-- four values by a count from 0 are those of g from place c on, and so is their sum
pub counted_from : (w f g : ℕ → ℤ) (c : ℕ) → ((k : ℕ) → f k ≡ g (c + k)) → weighted w f 0 ≡ weighted w g c
counted_from w f g c e = weighted_values w f g 0 c (e 0 ∙ ap g (add-zero c)) (e 1) (e 2) (e 3)

-- ---- four values in range, as the code reads them back from their bits

abbrev pub back : ℤ → ℤ
back v = to_z w64 (of_z w64 v)

module _ (f : ℕ → ℤ) (q : ℕ) (ranged : (s : ℕ) → q ≤ s → s < q + 4 → nat_abs (f s) ≤ 4_000_000_000) {v0 v1 v2 v3 : ℤ}
    (e0 : v0 ≡ f q) (e1 : v1 ≡ f (q + 1)) (e2 : v2 ≡ f (q + 2)) (e3 : v3 ≡ f (q + 3)) where
  held : (s : ℕ) {v : ℤ} → v ≡ f s → q ≤ s → s < q + 4 → Held (back v) (f s) 4_000_000_000
  held s e h k = read tt (record { is = e; size = ranged s h k })

  h0 : Held (back v0) (f q) 4_000_000_000
  h0 = held q e0 (omega arith) (omega arith)

  h1 : Held (back v1) (f (q + 1)) 4_000_000_000
  h1 = held (q + 1) e1 (omega arith) (omega arith)

  h2 : Held (back v2) (f (q + 2)) 4_000_000_000
  h2 = held (q + 2) e2 (omega arith) (omega arith)

  h3 : Held (back v3) (f (q + 3)) 4_000_000_000
  h3 = held (q + 3) e3 (omega arith) (omega arith)

  -- what `weighed` asks of them
  pub four_small : (nat_abs (back v0) ≤ 4_000_000_000) × (nat_abs (back v1) ≤ 4_000_000_000) × (nat_abs (back v2) ≤ 4_000_000_000) × (nat_abs (back v3) ≤ 4_000_000_000)
  four_small = (small 4_000_000_000 tt h0, small 4_000_000_000 tt h1, small 4_000_000_000 tt h2, small 4_000_000_000 tt h3)

  -- their sum
  pub sum_is : (w : ℕ → ℤ) {s : ℤ} → s ≡ weighted w (four (back v0) (back v1) (back v2) (back v3)) 0 → s ≡ weighted w f q
  sum_is w e = e ∙ weighted_values w _ f 0 q h0.is h1.is h2.is h3.is

  -- and what a rounding over d makes of that, s the sum and z the answer
  pub step_is : (w : ℕ → ℤ) (d : ℕ) {s z : ℤ} → mag s < 2 ^ 63 → s ≡ weighted w (four (back v0) (back v1) (back v2) (back v3)) 0
      → mag z < 2 ^ 63 → z ≡ near (back s) d → back z ≡ near (weighted w f q) d
  step_is w d a e b i =
      returned b i ∙ ap (λ v. near v d) (returned a (sum_is w e))

-- the weights of a line are no larger than those at the largest U, and its four values are in range
pub line_weight : {l : List ℤ} {q apart : ℕ} {b : Basis} {e : ℕ} → Weighable l q apart b e → weight_size b ≤ 805_306_368
line_weight {e = e} w = le_trans w.weight_most (denominator_most (2 ^ e) (pow_mono {j = 9} w.e_most))

pub summable : {l : List ℤ} {q apart : ℕ} {b : Basis} {e : ℕ} → Weighable l q apart b e → Summable l q apart b
summable w = record { stored = w.stored; weight_most = line_weight w; ranged = w.ranged }

pub spaced_ranged : {l : List ℤ} {q apart : ℕ} {b : Basis} → Summable l q apart b → (k : ℕ) → k < 4 → nat_abs (spaced l q apart k) ≤ 4_000_000_000
spaced_ranged {q = q} {apart = apart} w k h = let most : k * apart ≤ 3 * apart = mul-le-mul_right apart (omega arith) in w.ranged (q + k * apart) (omega arith)

-- ---- one step of the height, and both

-- a row's step, and a column's
abbrev pub row_height : ℕ → ℕ → List ℤ → ℕ → ℕ → ℤ
row_height U m l x t = near (along U m x (λ s. control m l s t)) (denominator U)

abbrev pub column_height : ℕ → ℕ → ℕ → List ℤ → ℕ → ℕ → ℤ
column_height U m n l y s = near (along U n y (λ t. control m l s t)) (denominator U)

-- a line by the places where its values are stored
line_is : {U m x : ℕ} {b : Basis} {c : ℕ} → Based U m x b c → (l : List ℤ) (q apart : ℕ) (f : ℕ → ℤ) → ((k : ℕ) → spaced l q apart k ≡ f (c + k))
    → line_height l q apart b U ≡ near (along U m x f) (denominator U)
unfolding line_height
line_is {U} {b = b} {c} p l q apart f e =
    ap (λ v. near v (denominator U)) (counted_from (numerators b) (spaced l q apart) f c e ∙ along_weighted p f)

-- a row, a column, and the height by its rows
pub row_is : {U m x : ℕ} {b : Basis} {c : ℕ} → Based U m x b c → (l : List ℤ) (t q : ℕ) → q ≡ t * (m + 3) + c
    → line_height l q 1 b U ≡ row_height U m l x t
unfolding control
row_is {m = m} {c = c} p l t q h = line_is p l q 1 (λ s. control m l s t) (λ k. ap (λ i. get_or l i (pos 0)) (omega arith))

pub column_is : {U n y : ℕ} {b : Basis} {c : ℕ} → Based U n y b c → (m : ℕ) (l : List ℤ) (s q : ℕ) → q ≡ c * (m + 3) + s
    → line_height l q (m + 3) b U ≡ column_height U m n l y s
unfolding control
column_is p m l s q h = line_is p l q (m + 3) (λ t. control m l s t) (λ k. ap (λ i. get_or l i (pos 0)) (omega arith))

pub height_is : {U n y : ℕ} {b : Basis} {c : ℕ} → Based U n y b c → (m : ℕ) (l : List ℤ) (x : ℕ)
    → near (weighted (numerators b) (row_height U m l x) c) (denominator U) ≡ height U m n (control m l) x y
unfolding height
height_is {U} p m l x = ap (λ v. near v (denominator U)) (along_weighted p (row_height U m l x))

-- ---- in a lattice that can be read, with its unit 2^e

-- the row's height is in range where the lattice is
pub row_within : {m n e : ℕ} {l : List ℤ} {x : ℕ} → Grounded m n e l → x ≤ 2 ^ e * m → (t : ℕ) → t < n + 3 → nat_abs (row_height (2 ^ e) m l x t) ≤ 4_000_000_000
row_within {m} {n} {e} {l} {x} g i t h =
    let U = 2 ^ e in
    let u : 0 < U = pow_pos e in
    let f : ℕ → ℤ = λ s. control m l s t in
    near_within (along U m x f) (denominator U) 4_000_000_000 (denominator_positive U u)
    (along_bound U m x u g.grid.m_some i f 4_000_000_000 (λ s k. (control_within m n l g.ranged).size s t k h))

-- what `line_height` asks of a line of the lattice, of a row, and of a column
line_asked : {m n e : ℕ} {l : List ℤ} {k x : ℕ} {b : Basis} {c : ℕ} → Grounded m n e l → On (2 ^ e) k x → Based (2 ^ e) k x b c → (q apart : ℕ) → q + 3 * apart < controls m n
    → Weighable l q apart b e
line_asked g o p q apart stored =
    record { e_most = g.grid.e_most; stored = omega (arith, stored, g.long); weight_most = le_of_eq (weight_is o p); ranged = λ i l. g.ranged i (omega (arith, stored)) }

pub row_asked : {m n e : ℕ} {l : List ℤ} {x : ℕ} {b : Basis} {c : ℕ} → Grounded m n e l → On (2 ^ e) m x → Based (2 ^ e) m x b c → (t q : ℕ) → t < n + 3 → q ≡ t * (m + 3) + c
    → Weighable l q 1 b e
row_asked {m} {n} {c = c} g o p t q h is =
    let k : c < m = placed_below o p in
    line_asked g o p q 1 (omega (arith, place_below m n (c + 3) t (omega arith) h))

pub column_asked : {m n e : ℕ} {l : List ℤ} {y : ℕ} {b : Basis} {c : ℕ} → Grounded m n e l → On (2 ^ e) n y → Based (2 ^ e) n y b c → (s q : ℕ) → s < m + 3 → q ≡ c * (m + 3) + s
    → Weighable l q (m + 3) b e
column_asked {m} {n} {c = c} g o p s q h is =
    let k : c < n = placed_below o p in
    line_asked g o p q (m + 3) (omega (arith, place_below m n s (c + 3) h (omega arith)))

-- such a step is in range
pub line_within : {l : List ℤ} {q apart : ℕ} {b : Basis} {e : ℕ} → Weighable l q apart b e → nat_abs (line_height l q apart b (2 ^ e)) ≤ 4_000_000_000
unfolding line_height
line_within {l} {q} {apart} {b} {e} w =
    near_within _ (denominator (2 ^ e)) 4_000_000_000 (denominator_positive (2 ^ e) (pow_pos e))
    (le_trans (weighted_bound (numerators b) (spaced l q apart) 0 4_000_000_000 (λ k h i. spaced_ranged (summable w) k i)) (mul-le-mul_right 4_000_000_000 w.weight_most))

module _ {m n e : ℕ} {l : List ℤ} {x y : ℕ} (r : Readable m n e l x y) where
  pub on_x : On (2 ^ e) m x
  on_x = on_grid e m x r.grounded.grid.e_most r.grounded.grid.m_some r.x_inside

  pub on_y : On (2 ^ e) n y
  on_y = on_grid e n y r.grounded.grid.e_most r.grounded.grid.n_some r.y_inside

  -- the four rows that a position reads lie in the lattice: the last place of the last row does
  pub last_place : {bx by : Basis} {cx cy : ℕ} → Based (2 ^ e) m x bx cx → Based (2 ^ e) n y by cy
      → cy * (m + 3) + cx + (m + 3) + (m + 3) + (m + 3) + 3 < controls m n
  last_place {cx = cx} {cy = cy} across up =
      let h : cx < m = placed_below on_x across in
      let k : cy < n = placed_below on_y up in
      omega (arith, place_below m n (cx + 3) (cy + 3) (omega arith) (omega arith))
