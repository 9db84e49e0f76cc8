-- Each row's record follows those of the rows before it.
use Rattle.std.proofs.Common.{◌≡◌, refl, sym, ap, ◌∙◌, List, ℕ, ◌+◌, ◌<◌, ◌≤◌, ℤ, length, arith}
use Rattle.algebra.specs.Table.{joined, laid, laid_none, laid_joined}
use Rattle.rules.specs.LatticeFile.{row_record, row_length, row_start}
use Rattle.lattice_layout.specs.Places.{lattice_row, file_row, row_long}
use Rattle.lattice_writer.proofs.put_rows.Goals as goal

-- one row more
more : (lattice : List ℤ) (m r : ℕ) (d e f : List ℕ) → 6 ≤ length d → e ≡ laid 6 (joined r (row_record m lattice)) d
    → f ≡ laid (row_start m r) (row_record m lattice r) e → f ≡ laid 6 (joined (r + 1) (row_record m lattice)) d
unfolding row_start
more lattice m r d e f h before next =
    next
    ∙ ap (laid (row_start m r) (row_record m lattice r)) before
    ∙ laid_joined 6 (row_start m r) r (row_length m) (row_record m lattice) d (row_long m lattice) h refl

pub loop-r-init : goal.loop-r-init
unfolding joined
loop-r-init c = sym (laid_none _ _)

pub put_row-requires : goal.put_row-requires
put_row-requires c =
    let a = c.args in
    let r = c.loop-r.r in
    let row : r < a.cells.n + 3 = omega arith in
    (omega arith, omega (arith, lattice_row a.cells.m a.cells.n r row), omega (arith, file_row a.cells.m a.cells.n r row))

pub loop-r-preserved : goal.loop-r-preserved
unfolding row_start
loop-r-preserved c =
    let a = c.args in
    let head : 6 ≤ length a.output.now = omega (arith, c.requires.1) in
    more a.lattice.now a.cells.m c.loop-r.r a.output.now c.loop-r.output _ head c.loop-r.invariant c.put_row.ensures
