-- The first row that is refused is the one at r, where none before it is.
use Rattle.std.proofs.Common.{◌+◌, refl, sym, arith}
use Rattle.std.proofs.lemmas.Result.{err_from_is_err_and}
use Rattle.rules.specs.Answers.{first_of}
use Rattle.rules.specs.LatticeFile.{row_check}
use Rattle.rules.proofs.Laws.Checks.{first_of_at, first_of_more}
use Rattle.lattice_records.proofs.rows.Goals as goal

pub loop-r-init : goal.loop-r-init
unfolding first_of
loop-r-init c = refl

pub returns-in_err-row : goal.returns-in_err-row
returns-in_err-row c =
    let a = c.args in
    let p = err_from_is_err_and c.from_residual.result c.from_residual.ensures.1 in
    rw (p.1, p.2) (sym (first_of_at (a.cells.n + 3) c.loop-r.r (row_check a.cells.m a.file.now) _ c.loop-r.invariant (omega arith) (sym c.in_err-row.ensures)))

pub loop-r-preserved : goal.loop-r-preserved
loop-r-preserved c = first_of_more c.loop-r.r _ c.loop-r.invariant (sym c.in_ok-row.ensures)
