-- The cells and numerators of both axes are the position's, so the four rows that the code sums are those of the height, and they are stored.
use Rattle.std.proofs.Common.{◌≡◌, ℕ, ◌+◌, ◌*◌, ◌^◌, ◌≤◌, ◌<◌, ℤ, nat_abs, sym, ap, subst, ◌∙◌, arith}
use Rattle.rules.specs.Grid.{controls}
use Rattle.rules.specs.Surface.{denominator}
use Rattle.basis.specs.Weighing.{numerators, Weighable, line_height}
use Rattle.basis.specs.Sums.{Based, basis_asked, placed, placed_below, weight_most, four_small, step_is, row_height, on_x, on_y, row_asked, row_within, last_place, row_is, height_is}
use Rattle.heights.proofs.height_within.Goals as goal
use Rattle.heights.proofs.height_within.Goals.{After-width-w}

-- ---- what is known once both axes are weighed

module _ (c : After-width-w) where
  abbrev w : ℕ
  w = c.width-w.result

  abbrev cx : ℕ
  cx = c.locate-across.result.cell

  abbrev cy : ℕ
  cy = c.locate-up.result.cell

  across : Based (2 ^ c.args.grid.e) c.args.grid.cells.m c.args.x c.basis_of-bx.result cx
  across = placed c.unit-unit.ensures (on_x c.requires) c.locate-across.ensures c.basis_of-bx.ensures

  up : Based (2 ^ c.args.grid.e) c.args.grid.cells.n c.args.y c.basis_of-by.result cy
  up = placed c.unit-unit.ensures (on_y c.requires) c.locate-up.ensures c.basis_of-by.ensures

  by_width : (t q : ℕ) → q ≡ t * w + cx → q ≡ t * (c.args.grid.cells.m + 3) + cx
  by_width t q i = i ∙ ap (λ w. t * w + cx) c.width-w.ensures

  stored : cy * w + cx + w + w + w + 3 < controls c.args.grid.cells.m c.args.grid.cells.n
  stored = subst (λ w. cy * w + cx + w + w + w + 3 < controls c.args.grid.cells.m c.args.grid.cells.n) (sym c.width-w.ensures) (last_place c.requires across up)

  asked : (t q : ℕ) → t < cy + 4 → q ≡ t * w + cx → Weighable c.args.lattice.now q 1 c.basis_of-bx.result c.args.grid.e
  asked t q h is = row_asked c.requires.grounded (on_x c.requires) across t q (omega (arith, placed_below (on_y c.requires) up)) (by_width t q is)

  -- the height of row t
  row : ℕ → ℤ
  row = row_height (2 ^ c.args.grid.e) c.args.grid.cells.m c.args.lattice.now c.args.x

  row_ranged : (t : ℕ) → cy ≤ t → t < cy + 4 → nat_abs (row t) ≤ 4_000_000_000
  unfolding row
  row_ranged t h k = row_within c.requires.grounded c.requires.x_inside t (omega (arith, placed_below (on_y c.requires) up))

  -- what `line_height` returned for row t
  row_told : (t q : ℕ) {z : ℤ} → q ≡ t * w + cx → z ≡ line_height c.args.lattice.now q 1 c.basis_of-bx.result (2 ^ c.args.grid.e) → z ≡ row t
  unfolding row
  row_told t q i e = e ∙ row_is across c.args.lattice.now t q (by_width t q i)

-- ---- what the steps ask

pub basis_of-bx-requires : goal.basis_of-bx-requires
basis_of-bx-requires c = let o = on_x c.requires in basis_asked c.unit-unit.ensures o c.locate-across.ensures

pub basis_of-by-requires : goal.basis_of-by-requires
basis_of-by-requires c = let o = on_y c.requires in basis_asked c.unit-unit.ensures o c.locate-up.ensures

pub overflow_mul-q0 : goal.overflow_mul-q0
overflow_mul-q0 c = omega (arith, stored ((goal.at.overflow_mul-q0 c).After-width-w))

pub overflow_add-q0 : goal.overflow_add-q0
overflow_add-q0 c = omega (arith, stored ((goal.at.overflow_add-q0 c).After-width-w))

pub overflow_add-q1 : goal.overflow_add-q1
overflow_add-q1 c = omega (arith, stored ((goal.at.overflow_add-q1 c).After-width-w))

pub overflow_add-q2 : goal.overflow_add-q2
overflow_add-q2 c = omega (arith, stored ((goal.at.overflow_add-q2 c).After-width-w))

pub overflow_add-q3 : goal.overflow_add-q3
overflow_add-q3 c = omega (arith, stored ((goal.at.overflow_add-q3 c).After-width-w))

pub line_height-r0-requires : goal.line_height-r0-requires
line_height-r0-requires c = let a = (goal.at.line_height-r0-requires c).After-width-w in asked a (cy a) _ (omega arith) (omega arith)

pub line_height-r1-requires : goal.line_height-r1-requires
line_height-r1-requires c = let a = (goal.at.line_height-r1-requires c).After-width-w in asked a (cy a + 1) _ (omega arith) (omega arith)

pub line_height-r2-requires : goal.line_height-r2-requires
line_height-r2-requires c = let a = (goal.at.line_height-r2-requires c).After-width-w in asked a (cy a + 2) _ (omega arith) (omega arith)

pub line_height-r3-requires : goal.line_height-r3-requires
line_height-r3-requires c = let a = (goal.at.line_height-r3-requires c).After-width-w in asked a (cy a + 3) _ (omega arith) (omega arith)

pub weighed-requires-clause-weights_bounded : goal.weighed-requires-clause-weights_bounded
weighed-requires-clause-weights_bounded c = weight_most (on_y c.requires) (up ((goal.at.weighed-requires-clause-weights_bounded c).After-width-w))

pub weighed-requires-clause-values_in_range : goal.weighed-requires-clause-values_in_range
weighed-requires-clause-values_in_range c =
    let a = (goal.at.weighed-requires-clause-values_in_range c).After-width-w in
    four_small (row a) (cy a) (row_ranged a)
    (row_told a (cy a) _ (omega arith) c.line_height-r0.ensures)
    (row_told a (cy a + 1) _ (omega arith) c.line_height-r1.ensures)
    (row_told a (cy a + 2) _ (omega arith) c.line_height-r2.ensures)
    (row_told a (cy a + 3) _ (omega arith) c.line_height-r3.ensures)

-- ---- what it returns

pub returns : goal.returns
unfolding row
returns c =
    let a = (goal.at.returns c).After-width-w in
    step_is (row a) (cy a) (row_ranged a)
    (row_told a (cy a) _ (omega arith) c.line_height-r0.ensures)
    (row_told a (cy a + 1) _ (omega arith) c.line_height-r1.ensures)
    (row_told a (cy a + 2) _ (omega arith) c.line_height-r2.ensures)
    (row_told a (cy a + 3) _ (omega arith) c.line_height-r3.ensures)
    (numerators c.basis_of-by.result) (denominator (2 ^ c.args.grid.e))
    c.weighed.type_inv c.weighed.ensures.0 c.near_over.type_inv c.near_over.ensures
    ∙ height_is (up a) _ _ _
