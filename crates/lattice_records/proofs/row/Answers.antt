-- The record, its row number, and then its values.
use Rattle.std.proofs.Common.{◌≡◌, refl, sym, ◌∙◌, List, ◌∷◌, [], ℕ, ◌+◌, eqb, arith}
use Rattle.std.proofs.Math.Option.{none}
use Rattle.std.proofs.lemmas.Result.{err_from_is_err_and}
use borrow.Author.Tests.{eq-eqb, ne_eqb}
use Rattle.rules.specs.Answers.{require, ◌then◌, first_of, field}
use Rattle.rules.specs.Bytes.{number_at, record_check}
use Rattle.rules.proofs.Laws.Bytes.{record_fits}
use Rattle.rules.proofs.Laws.Checks.{then_none, then_some}
use Rattle.rules.specs.LatticeFile.{LR, row_length, row_start, row_check}
use Rattle.lattice_records.specs.Judged.{value_check}
use Rattle.lattice_records.proofs.row.Goals as goal

-- the check of row r, which starts at byte s and is l bytes long; and what is left of it after the record, where the row number is k
module _ (file : List ℕ) (m r s k l : ℕ) (start : s ≡ row_start m r) (size : l ≡ row_length m) where
  whole : row_check m file r
      ≡ (record_check LR file s l then require (eqb (number_at 2 file (s + 2)) r) (field (s + 2)) then first_of (m + 3) (value_check file (s + 4)))
  unfolding row_check
  whole = rw (start, size)

  rest : none ≡ record_check (0x4C ∷ 0x52 ∷ []) file s l → k ≡ number_at 2 file (s + 2)
      → row_check m file r ≡ (require (eqb k r) (field (s + 2)) then first_of (m + 3) (value_check file (s + 4)))
  unfolding LR
  rest complete number = rw number (whole ∙ then_none (record_check LR file s l) _ (sym complete))

pub returns-in_err-record : goal.returns-in_err-record
unfolding LR
returns-in_err-record c =
    let p = err_from_is_err_and c.from_residual.result c.from_residual.ensures.1 in
    rw (p.1, p.2) (sym (whole _ _ _ _ 0 _ c.row_start-s.ensures.0 c.row_length.ensures.0 ∙ then_some _ _ (sym c.in_err-record.ensures)))

pub u16_at-requires : goal.u16_at-requires
unfolding LR row_length
u16_at-requires c = omega (arith, c.row_length.ensures.0, record_fits LR refl _ _ _ (sym c.in_ok-record.ensures))

pub returns-then-u16_at-r : goal.returns-then-u16_at-r
unfolding require ◌then◌
returns-then-u16_at-r c = rw (rest _ _ _ _ _ _ c.row_start-s.ensures.0 c.row_length.ensures.0 c.in_ok-record.ensures c.u16_at.ensures, ne_eqb _ _ c.if-u16_at-r.true)

pub values-requires : goal.values-requires
unfolding LR row_length
values-requires c = omega (arith, c.row_length.ensures.0, record_fits LR refl _ _ _ (sym c.in_ok-record.ensures))

pub returns : goal.returns
unfolding require ◌then◌
returns c =
    rw (rest _ _ _ _ _ _ c.row_start-s.ensures.0 c.row_length.ensures.0 c.in_ok-record.ensures c.u16_at.ensures, eq-eqb _ _ c.if-u16_at-r.false)
    c.values.ensures
