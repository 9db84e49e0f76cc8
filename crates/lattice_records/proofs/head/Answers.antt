-- The record, and then the two counts, each by the test that refused it or passed it.
use Rattle.std.proofs.Common.{◌≡◌, refl, sym, ap, ap₂, ◌∙◌, List, ◌∷◌, [], ℕ, ◌≤◌, Bool, true, T, subst, length, arith}
use Rattle.std.proofs.Math.Option.{none}
use Rattle.std.proofs.lemmas.Result.{err_from_is_err_and}
use Rattle.rules.specs.Grid.{within}
use Rattle.rules.specs.Answers.{require, ◌then◌, field}
use Rattle.rules.specs.Bytes.{number_at, record_check}
use Rattle.rules.specs.LatticeFile.{LH, file_m, file_n, lattice_head_check}
use Rattle.rules.proofs.Laws.Bytes.{record_fits}
use Rattle.rules.proofs.Laws.Checks.{then_none, then_some, within_bounds}
use Rattle.lattice_records.proofs.head.Goals as goal

-- the record stands where `record` refused nothing
module _ (file : List ℕ) (complete : none ≡ record_check (0x4C ∷ 0x48 ∷ []) file 0 6) where
  -- the check of the counts, after the record
  counts_left : lattice_head_check file ≡ (require (within 1 512 (number_at 2 file 2)) (field 2) then require (within 1 512 (number_at 2 file 4)) (field 4))
  unfolding lattice_head_check file_m file_n LH
  counts_left = then_none (record_check LH file 0 6) _ (sym complete)

  long : 6 ≤ length file
  unfolding LH
  long = record_fits LH refl file 0 6 (sym complete)

-- what `within` found of a count that was read as k
tested : {k v : ℕ} {b : Bool} → k ≡ v → b ≡ within 1 512 k → within 1 512 v ≡ b
tested is e = sym (e ∙ ap (within 1 512) is)

most : {k : ℕ} → true ≡ within 1 512 k → k ≤ 512
most e = (within_bounds 1 512 _ (subst T e tt)).1

pub returns-in_err-record-clause-checked : goal.returns-in_err-record-clause-checked
unfolding lattice_head_check LH
returns-in_err-record-clause-checked c =
    let p = err_from_is_err_and c.from_residual.result c.from_residual.ensures.1 in
    rw (p.1, p.2) (sym (then_some _ _ (sym c.in_err-record.ensures)))

pub u16_at-m-requires : goal.u16_at-m-requires
u16_at-m-requires c = omega (arith, long _ c.in_ok-record.ensures)

pub u16_at-n-requires : goal.u16_at-n-requires
u16_at-n-requires c = long _ c.in_ok-record.ensures

pub returns-then-not-within-clause-checked : goal.returns-then-not-within-clause-checked
unfolding require ◌then◌
returns-then-not-within-clause-checked c = rw (counts_left _ c.in_ok-record.ensures, tested c.u16_at-m.ensures c.if-not-within.ensures)

pub returns-then-not-within-2-clause-checked : goal.returns-then-not-within-2-clause-checked
unfolding require ◌then◌
returns-then-not-within-2-clause-checked c =
    rw (counts_left _ c.in_ok-record.ensures, tested c.u16_at-m.ensures c.if-not-within.ensures, tested c.u16_at-n.ensures c.if-not-within-2.ensures)

pub invariant_of-result : goal.invariant_of-result
invariant_of-result c = record { few = (most c.if-not-within.ensures, most c.if-not-within-2.ensures) }

pub returns-clause-checked : goal.returns-clause-checked
unfolding require ◌then◌
returns-clause-checked c =
    rw (counts_left _ c.in_ok-record.ensures, tested c.u16_at-m.ensures c.if-not-within.ensures, tested c.u16_at-n.ensures c.if-not-within-2.ensures)

pub returns-clause-read : goal.returns-clause-read
unfolding file_m file_n
returns-clause-read c = ap₂ (λ m n. record { m = m; n = n }) c.u16_at-m.ensures c.u16_at-n.ensures
