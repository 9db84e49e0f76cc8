-- The sum that the column's cell and numerators give.
use Rattle.std.proofs.Common.{ap, ◌∙◌, ◌^◌, arith}
use Rattle.machine.specs.Held.{returned}
use Rattle.rules.specs.Rounding.{near}
use Rattle.rules.specs.Surface.{denominator}
use Rattle.basis.specs.Weighing.{line_height}
use Rattle.basis.specs.Sums.{summable}
use Rattle.strips.proofs.Stored.{asked, sum_is}
use Rattle.strips.proofs.taps.Columns.row_sum.Goals as goal

pub overflow_add-q : goal.overflow_add-q
overflow_add-q c =
    let p = c.args.self.now in
    omega (arith, (asked p.strip p.lattice.now p.cells.now p.taps.now p.grounded p.tapped _ _ c.requires.0 c.requires.1 c.width.ensures).stored, c.well_formed)

pub line_sum-requires : goal.line_sum-requires
line_sum-requires c = let p = c.args.self.now in summable (asked p.strip p.lattice.now p.cells.now p.taps.now p.grounded p.tapped _ _ c.requires.0 c.requires.1 c.width.ensures)

pub returns : goal.returns
unfolding line_height
returns c =
    let p = c.args.self.now in
    returned c.near_over_tested.type_inv c.near_over_tested.ensures
    ∙ ap (λ v. near v (denominator (2 ^ p.strip.grid.e))) (returned c.line_sum.type_inv c.line_sum.ensures.0)
    ∙ sum_is p.strip p.lattice.now p.cells.now p.taps.now p.grounded p.tapped _ _ c.requires.0 c.requires.1 c.width.ensures
