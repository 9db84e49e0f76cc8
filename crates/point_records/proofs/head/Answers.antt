-- Once the head's record stands, each field is a byte of the file, and each refusal is decided by the test that led to it.
use Rattle.std.proofs.Common.{◌≡◌, refl, sym, List, [], ◌∷◌, ℕ, ◌≤◌, leb, eqb, length, get_or, arith}
use Rattle.std.proofs.Math.Option.{none}
use Rattle.std.proofs.lemmas.Result.{err_from_is_err_and}
use borrow.Author.Tests.{le-leb, lt-leb, eq-eqb, ne_eqb}
use Rattle.rules.specs.Grid.{within}
use Rattle.rules.specs.Answers.{require, ◌then◌, field}
use Rattle.rules.specs.Bytes.{record_check}
use Rattle.rules.specs.PointFile.{PH, file_shape, point_head_check}
use Rattle.rules.proofs.Laws.Bytes.{record_fits}
use Rattle.point_records.specs.Records.{number_at_one}
use Rattle.point_records.proofs.head.Goals as goal

-- the fields' checks, by the file's bytes
fields : (file : List ℕ) → record_check PH file 0 8 ≡ none
    → point_head_check file
    ≡ (require (within 1 16 (get_or file 2 0)) (field 2)
    then require (within 1 16 (get_or file 3 0)) (field 3)
    then require (leb (get_or file 4 0) 5) (field 4)
    then require (eqb (get_or file 5 0) 0) (field 5))
unfolding point_head_check file_shape ◌then◌
fields file e = simp (e, number_at_one)

-- the record stands where `record` refused nothing
module _ (file : List ℕ) (e : none ≡ record_check (0x50 ∷ 0x48 ∷ []) file 0 8) where
  stands : record_check PH file 0 8 ≡ none
  unfolding PH
  stands = sym e

  complete : 8 ≤ length file
  unfolding PH
  complete = record_fits PH refl file 0 8 (sym e)

pub returns-in_err-record-clause-checked : goal.returns-in_err-record-clause-checked
unfolding point_head_check PH ◌then◌
returns-in_err-record-clause-checked c =
    let p = err_from_is_err_and c.from_residual.result c.from_residual.ensures.1 in
    rw (p.1, p.2, ← c.in_err-record.ensures)

pub bounds-file-2 : goal.bounds-file-2
bounds-file-2 c = omega (arith, complete _ c.in_ok-record.ensures)

pub bounds-file-3 : goal.bounds-file-3
bounds-file-3 c = omega (arith, complete _ c.in_ok-record.ensures)

pub bounds-file-4 : goal.bounds-file-4
bounds-file-4 c = omega (arith, complete _ c.in_ok-record.ensures)

pub returns-then-not-within-clause-checked : goal.returns-then-not-within-clause-checked
unfolding require ◌then◌
returns-then-not-within-clause-checked c = rw (fields _ (stands _ c.in_ok-record.ensures), sym c.if-not-within.ensures)

pub returns-then-not-within-2-clause-checked : goal.returns-then-not-within-2-clause-checked
unfolding require ◌then◌
returns-then-not-within-2-clause-checked c = rw (fields _ (stands _ c.in_ok-record.ensures), sym c.if-not-within.ensures, sym c.if-not-within-2.ensures)

pub returns-then-shape-gt5-clause-checked : goal.returns-then-shape-gt5-clause-checked
unfolding require ◌then◌
returns-then-shape-gt5-clause-checked c =
    rw (fields _ (stands _ c.in_ok-record.ensures), sym c.if-not-within.ensures, sym c.if-not-within-2.ensures, lt-leb _ _ c.if-shape-gt5.true)

pub bounds-file-5 : goal.bounds-file-5
bounds-file-5 c = omega (arith, complete _ c.in_ok-record.ensures)

pub returns-then-file-ne0-clause-checked : goal.returns-then-file-ne0-clause-checked
unfolding require ◌then◌
returns-then-file-ne0-clause-checked c =
    rw (fields _ (stands _ c.in_ok-record.ensures), sym c.if-not-within.ensures, sym c.if-not-within-2.ensures, le-leb _ _ c.if-shape-gt5.false, ne_eqb _ _ c.if-file-ne0.true)

pub returns-clause-checked : goal.returns-clause-checked
unfolding require ◌then◌
returns-clause-checked c =
    rw (fields _ (stands _ c.in_ok-record.ensures), sym c.if-not-within.ensures, sym c.if-not-within-2.ensures, le-leb _ _ c.if-shape-gt5.false, eq-eqb _ _ c.if-file-ne0.false)

pub returns-clause-read : goal.returns-clause-read
unfolding file_shape
returns-clause-read c = let file = c.args.file.now in rw (number_at_one file 2, number_at_one file 3, number_at_one file 4) refl
