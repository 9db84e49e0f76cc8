-- The record, its count, and then that the file ends there.
use Rattle.std.proofs.Common.{◌≡◌, refl, sym, ap, ◌∙◌, List, ◌∷◌, [], ℕ, ◌+◌, eqb, length, arith}
use Rattle.std.proofs.Math.Option.{none}
use Rattle.std.proofs.lemmas.Result.{err_from_is_err_and}
use borrow.Author.Tests.{eq-eqb, ne_eqb}
use Rattle.rules.specs.Answers.{require, ◌then◌, field, trailing}
use Rattle.rules.specs.Bytes.{number_at, record_check}
use Rattle.rules.proofs.Laws.Bytes.{record_fits}
use Rattle.rules.proofs.Laws.Checks.{then_none, then_some}
use Rattle.rules.specs.LatticeFile.{Le, row_start, end_check}
use Rattle.lattice_records.proofs.end.Goals as goal
use Rattle.lattice_records.proofs.end.Goals.{After-row_start-s}

-- the check of the end, which starts at byte s; and what is left of it after the record, where the count is k
module _ (file : List ℕ) (m n s k : ℕ) (start : s ≡ row_start m (n + 3)) where
  whole : end_check m n file
      ≡ (record_check Le file s 4 then require (eqb (number_at 2 file (s + 2)) (n + 3)) (field (s + 2)) then require (eqb (length file) (s + 4)) (trailing (s + 4)))
  unfolding end_check
  whole = rw start

  rest : none ≡ record_check (0x4C ∷ 0x45 ∷ []) file s 4 → k ≡ number_at 2 file (s + 2)
      → end_check m n file ≡ (require (eqb k (n + 3)) (field (s + 2)) then require (eqb (length file) (s + 4)) (trailing (s + 4)))
  unfolding Le
  rest complete count = rw count (whole ∙ then_none (record_check Le file s 4) _ (sym complete))

-- where the end starts
starts : (c : After-row_start-s) → c.row_start-s.result ≡ row_start c.args.cells.m (c.args.cells.n + 3)
starts c = c.row_start-s.ensures.0 ∙ ap (row_start c.args.cells.m) c.rows.ensures

pub returns-in_err-record : goal.returns-in_err-record
unfolding Le
returns-in_err-record c =
    let p = err_from_is_err_and c.from_residual.result c.from_residual.ensures.1 in
    rw (p.1, p.2) (sym (whole _ _ _ _ 0 (starts (goal.at.returns-in_err-record c).After-row_start-s) ∙ then_some _ _ (sym c.in_err-record.ensures)))

pub u16_at-requires : goal.u16_at-requires
unfolding Le
u16_at-requires c = omega (arith, record_fits Le refl _ _ _ (sym c.in_ok-record.ensures))

pub returns-then-u16_at-rows : goal.returns-then-u16_at-rows
unfolding require ◌then◌
returns-then-u16_at-rows c =
    let odd = ne_eqb c.u16_at.result (c.args.cells.n + 3) (rw c.rows-2.ensures at c.if-u16_at-rows.true) in
    rw (rest _ _ _ _ _ (starts (goal.at.returns-then-u16_at-rows c).After-row_start-s) c.in_ok-record.ensures c.u16_at.ensures, odd)

pub returns-then-file-s : goal.returns-then-file-s
unfolding require ◌then◌
returns-then-file-s c =
    let even = eq-eqb c.u16_at.result (c.args.cells.n + 3) (omega arith) in
    rw (rest _ _ _ _ _ (starts (goal.at.returns-then-file-s c).After-row_start-s) c.in_ok-record.ensures c.u16_at.ensures, even, ne_eqb _ (c.row_start-s.result + 4) c.if-file-s.true)

pub returns : goal.returns
unfolding require ◌then◌
returns c =
    let even = eq-eqb c.u16_at.result (c.args.cells.n + 3) (omega arith) in
    rw (rest _ _ _ _ _ (starts (goal.at.returns c).After-row_start-s) c.in_ok-record.ensures c.u16_at.ensures, even, eq-eqb _ (c.row_start-s.result + 4) c.if-file-s.false)
