-- The lattice file of an accepted fit, or the refusal of one that is refused.
use Rattle.std.proofs.Common.{refl, sym, ◌∙◌, arith}
use Rattle.std.proofs.lemmas.Result.{err_from_is_err_and}
use Rattle.rules.proofs.Laws.LatticeFile.{length_lattice_file}
use Rattle.respond.proofs.Fitting.{written_as, refusal, room, file_is}
use Rattle.respond.proofs.fit_and_write.Goals as goal

pub returns-in_err-cells : goal.returns-in_err-cells
returns-in_err-cells c =
    let p = err_from_is_err_and c.from_residual.result c.from_residual.ensures.1 in
    rw (p.1, p.2) (refusal c.requires.0 _ refl refl refl refl c.in_err-cells.ensures.answer _ refl, refl)

pub put_lattice-requires : goal.put_lattice-requires
put_lattice-requires c =
    let r = room c.requires.0 _ refl refl refl refl c.in_ok-cells.ensures.answer _ _ refl in
    (omega (arith, r.0, c.fit.auto.lattice), omega (arith, r.1, c.requires.1))

pub returns : goal.returns
returns c =
    let put = c.put_lattice.ensures in
    written_as (file_is c.requires.0 _ refl refl refl refl c.in_ok-cells.ensures.answer _ _ refl)
    (record { long = put.bytes_written ∙ sym (length_lattice_file _ _ _); is = put.output_after })
