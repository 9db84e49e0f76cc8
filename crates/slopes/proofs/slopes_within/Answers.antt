-- The cells and both kinds of numerators of the two axes are the position's, so the lines that the code weighs are its columns for x and its rows for y.
use Rattle.std.proofs.Common.{◌≡◌, ℕ, ◌+◌, ◌*◌, ◌^◌, ◌<◌, sym, ap, subst, ◌∙◌, arith}
use Rattle.machine.specs.Held.{returned}
use Rattle.rules.specs.Grid.{controls}
use Rattle.basis.specs.Sums.{Based, basis_asked, placed, on_x, on_y, last_place}
use Rattle.slopes.specs.Sloping.{Slopable, line_slope}
use Rattle.slopes.proofs.Axes.{SlopeBased, slopable_x, slopable_y, slope_x_is, slope_y_is}
use Rattle.slopes.proofs.slopes_within.Goals as goal
use Rattle.slopes.proofs.slopes_within.Goals.{After-basis_of-by, After-slope_basis-sy}

-- ---- what is known once both axes are weighed

module _ (c : After-basis_of-by) where
  abbrev cx : ℕ
  cx = c.locate-across.result.cell

  abbrev cy : ℕ
  cy = c.locate-up.result.cell

  across : Based (2 ^ c.args.grid.e) c.args.grid.cells.m c.args.x c.basis_of-bx.result cx
  across = placed c.unit-unit.ensures (on_x c.requires) c.locate-across.ensures c.basis_of-bx.ensures

  up : Based (2 ^ c.args.grid.e) c.args.grid.cells.n c.args.y c.basis_of-by.result cy
  up = placed c.unit-unit.ensures (on_y c.requires) c.locate-up.ensures c.basis_of-by.ensures

  stored : cy * (c.args.grid.cells.m + 3) + cx + (c.args.grid.cells.m + 3) + (c.args.grid.cells.m + 3) + (c.args.grid.cells.m + 3) + 3 < controls c.args.grid.cells.m c.args.grid.cells.n
  stored = last_place c.requires across up

  low : {w : ℕ} → w ≡ c.args.grid.cells.m + 3 → cy * w + cx < controls c.args.grid.cells.m c.args.grid.cells.n
  low e = rw e (omega (arith, stored))

module _ (c : After-slope_basis-sy) where
  fall_x : SlopeBased (2 ^ c.args.grid.e) c.args.grid.cells.m c.args.x c.slope_basis-sx.result c.locate-across.result.cell
  fall_x = placed c.unit-unit.ensures (on_x c.requires) c.locate-across.ensures c.slope_basis-sx.ensures

  fall_y : SlopeBased (2 ^ c.args.grid.e) c.args.grid.cells.n c.args.y c.slope_basis-sy.result c.locate-up.result.cell
  fall_y = placed c.unit-unit.ensures (on_y c.requires) c.locate-up.ensures c.slope_basis-sy.ensures

-- ---- what it returns

pub returns-clause-x_slope : goal.returns-clause-x_slope
returns-clause-x_slope c =
    let at = goal.at.returns-clause-x_slope c in
    let a = at.After-basis_of-by in
    let s = at.After-slope_basis-sy in
    returned c.axis_slope.type_inv c.axis_slope.ensures
    ∙ ap (λ w. line_slope c.args.lattice.now (cy a * w + cx a) 1 w c.basis_of-by.result c.slope_basis-sx.result (2 ^ c.args.grid.e)) c.width-w.ensures
    ∙ slope_x_is c.requires (across a) (up a) (fall_x s) (fall_y s)

pub returns-clause-y_slope : goal.returns-clause-y_slope
returns-clause-y_slope c =
    let at = goal.at.returns-clause-y_slope c in
    let a = at.After-basis_of-by in
    let s = at.After-slope_basis-sy in
    returned c.axis_slope-2.type_inv c.axis_slope-2.ensures
    ∙ ap (λ w. line_slope c.args.lattice.now (cy a * w + cx a) w 1 c.basis_of-bx.result c.slope_basis-sy.result (2 ^ c.args.grid.e)) c.width-w.ensures
    ∙ slope_y_is c.requires (across a) (up a) (fall_x s) (fall_y s)

-- ---- what the steps ask

pub basis_of-bx-requires : goal.basis_of-bx-requires
basis_of-bx-requires c = let o = on_x c.requires in basis_asked c.unit-unit.ensures o c.locate-across.ensures

pub basis_of-by-requires : goal.basis_of-by-requires
basis_of-by-requires c = let o = on_y c.requires in basis_asked c.unit-unit.ensures o c.locate-up.ensures

pub slope_basis-sx-requires : goal.slope_basis-sx-requires
slope_basis-sx-requires c = let o = on_x c.requires in basis_asked c.unit-unit.ensures o c.locate-across.ensures

pub slope_basis-sy-requires : goal.slope_basis-sy-requires
slope_basis-sy-requires c = let o = on_y c.requires in basis_asked c.unit-unit.ensures o c.locate-up.ensures

pub overflow_mul-q : goal.overflow_mul-q
overflow_mul-q c = omega (arith, low ((goal.at.overflow_mul-q c).After-basis_of-by) c.width-w.ensures)

pub overflow_add-q : goal.overflow_add-q
overflow_add-q c = omega (arith, low ((goal.at.overflow_add-q c).After-basis_of-by) c.width-w.ensures)

pub axis_slope-requires : goal.axis_slope-requires
axis_slope-requires c =
    let at = goal.at.axis_slope-requires c in
    let a = at.After-basis_of-by in
    let s = at.After-slope_basis-sy in
    subst (λ w. Slopable c.args.lattice.now (cy a * w + cx a) 1 w c.basis_of-by.result c.slope_basis-sx.result c.args.grid.e) (sym c.width-w.ensures)
    (slopable_x c.requires (across a) (up a) (fall_x s) (fall_y s))

pub axis_slope-requires-2 : goal.axis_slope-requires-2
axis_slope-requires-2 c =
    let at = goal.at.axis_slope-requires-2 c in
    let a = at.After-basis_of-by in
    let s = at.After-slope_basis-sy in
    subst (λ w. Slopable c.args.lattice.now (cy a * w + cx a) w 1 c.basis_of-bx.result c.slope_basis-sy.result c.args.grid.e) (sym c.width-w.ensures)
    (slopable_y c.requires (across a) (up a) (fall_x s) (fall_y s))
