-- The code's slope along an axis as the rules have it: a thousand times the slope numerators weigh the heights of the four columns for x, of the four rows for y.
use mathlib.Core.Path.{◌≡◌, ap, ◌∙◌}
use mathlib.Core.List.{List}
use Prim.Native.Nat.{ℕ, ◌+◌, ◌*◌, ◌^◌, ◌≤◌, ◌<◌}
use native.Mathlib.Nat.{mul-le-mul}
use native.Mathlib.Omega.{arith}
use lib.IntN.{ℤ, pos, nat_abs, ◌*ℤ◌}
use Rattle.algebra.specs.Size.{nat_abs_product}
use Rattle.rules.specs.Rounding.{near}
use Rattle.rules.specs.Grid.{control}
use Rattle.rules.specs.Surface.{cell, offset}
use Rattle.rules.specs.Slope.{slope_numerator, slope_denominator, slope_along, slope_x, slope_y}
use Rattle.rules.proofs.Laws.Basis.{weights_scale}
use Rattle.rules.proofs.Laws.Slope.{slopes_size}
use Rattle.basis.specs.Weighing.{numerators, weight_size, line_height, Readable}
use Rattle.basis.specs.Sums.{On, Placed, Based, offset_most, placed_below, weighted_placed, counted_from, row_height, column_height, row_is, column_is, row_asked, column_asked, on_x, on_y}
use Rattle.basis.specs.declared.Basis.{Basis}
use Rattle.slopes.specs.Sloping.{thousandfold, Slopable, line_slope}

-- ---- along one axis

-- what the code has of a position: its cell, and 1,000 times its slope numerators
abbrev pub SlopeBased : ℕ → ℕ → ℕ → Basis → ℕ → Type 0
SlopeBased U m x s c = Placed thousandfold U m x s c

-- with the thousand the sizes add up to at most 3,000U²
slope_weight : {U m x : ℕ} {s : Basis} {c : ℕ} → On U m x → SlopeBased U m x s c → weight_size s ≤ 805_306_368
slope_weight {U} {m} {x} o p =
    let h = p.weighs in
    let w : ℕ → ℤ = slope_numerator (pos U) (pos (offset U m x)) in
    let size : (k : ℕ) → nat_abs (pos 1_000 *ℤ w k) ≡ 1_000 * nat_abs (w k) = λ k. nat_abs_product (pos 1_000) (w k) in
    rw (h.n0, h.n1, h.n2, h.n3, size 0, size 1, size 2, size 3)
    (omega (arith, slopes_size U (offset U m x) (offset_most o), mul-le-mul o.unit_most o.unit_most))

-- the slope of four lines whose heights are those of f from the cell on
axis_is : {U m x : ℕ} {s : Basis} {c : ℕ} → SlopeBased U m x s c → (l : List ℤ) (q next apart : ℕ) (b : Basis) (f : ℕ → ℤ)
    → ((k : ℕ) → line_height l (q + k * next) apart b U ≡ f (c + k)) → line_slope l q next apart b s U ≡ near (pos 1_000 *ℤ slope_along U m x f) (slope_denominator U)
unfolding line_slope slope_along
axis_is {U} {m} {x} {s} {c} p l q next apart b f e =
    ap (λ v. near v (slope_denominator U))
    (counted_from (numerators s) _ f c e ∙ weighted_placed p f ∙ weights_scale (slope_numerator (pos U) (pos (offset U m x))) (pos 1_000) f (cell U m x))

-- ---- both axes of a position that can be read

module _ {m n e : ℕ} {l : List ℤ} {x y : ℕ} (r : Readable m n e l x y) {bx by sx sy : Basis} {cx cy : ℕ}
    (across : Based (2 ^ e) m x bx cx) (up : Based (2 ^ e) n y by cy) (fall-x : SlopeBased (2 ^ e) m x sx cx) (fall-y : SlopeBased (2 ^ e) n y sy cy) where
  abbrev q : ℕ
  q = cy * (m + 3) + cx

  column_below : cx < m
  column_below = placed_below (on_x r) across

  row_below : cy < n
  row_below = placed_below (on_y r) up

  pub slopable_x : Slopable l q 1 (m + 3) by sx e
  slopable_x = record {
    line = λ k h. column_asked r.grounded (on_y r) up (cx + k) (q + k * 1) (omega (arith, column_below)) (omega arith);
    weight_most = slope_weight (on_x r) fall-x;
  }

  pub slopable_y : Slopable l q (m + 3) 1 bx sy e
  slopable_y = record {
    line = λ k h. row_asked r.grounded (on_x r) across (cy + k) (q + k * (m + 3)) (omega (arith, row_below)) (omega arith);
    weight_most = slope_weight (on_y r) fall-y;
  }

  pub slope_x_is : line_slope l q 1 (m + 3) by sx (2 ^ e) ≡ slope_x (2 ^ e) m n (control m l) x y
  unfolding slope_x
  slope_x_is = axis_is fall-x l q 1 (m + 3) by (column_height (2 ^ e) m n l y) (λ k. column_is up m l (cx + k) (q + k * 1) (omega arith))

  pub slope_y_is : line_slope l q (m + 3) 1 bx sy (2 ^ e) ≡ slope_y (2 ^ e) m n (control m l) x y
  unfolding slope_y slope_x
  slope_y_is = axis_is fall-y l q (m + 3) 1 bx (row_height (2 ^ e) m l x) (λ k. row_is across l (cy + k) (q + k * (m + 3)) (omega arith))
