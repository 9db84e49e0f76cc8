-- The checks in their order, each refusal leaving the output, and then the file.
use Rattle.std.proofs.Common.{◌≡◌, sym, ap, ap₂, ◌∙◌, List, ℕ, ◌&&◌, ◌≤◌, ℤ, leb, length, arith}
use Rattle.std.proofs.Math.Option.{none}
use Rattle.std.proofs.lemmas.Result.{err_from_is_err_and}
use borrow.Author.Tests.{le-leb, lt-leb}
use Rattle.rules.specs.Grid.{controls}
use Rattle.rules.specs.Answers.{require, ◌then◌, short, accepted, outcome}
use Rattle.rules.specs.Calls.{cells_check, lattice_check}
use Rattle.rules.specs.LatticeFile.{row_start, lattice_file_length, write_lattice_check, write_lattice_call}
use Rattle.rules.proofs.Laws.Checks.{then_none, then_some, call_refused, call_accepted}
use Rattle.rules.proofs.Laws.Passed.{cells_passed}
use Rattle.lattice_writer.proofs.write_lattice.Goals as goal
use Rattle.lattice_writer.proofs.write_lattice.Goals.{Else-output-row_start}

module _ (m n : ℕ) (cells : none ≡ cells_check 512 m n) where
  bounds : (m ≤ 512) × (n ≤ 512)
  bounds = let p = cells_passed _ _ _ (sym cells) in (p.1, p.3)

  module _ (lattice : List ℤ) (output : List ℕ) where
    -- what is left of the checks after the cell counts
    rest : write_lattice_check m n lattice output ≡ (require (leb (controls m n) (length lattice) && leb (lattice_file_length m n) (length output)) short then lattice_check m n lattice)
    unfolding write_lattice_check
    rest = then_none (cells_check 512 m n) _ (sym cells)

    -- and after the lengths
    last : controls m n ≤ length lattice → lattice_file_length m n ≤ length output → write_lattice_check m n lattice output ≡ lattice_check m n lattice
    unfolding require ◌then◌
    last h k = rest ∙ rw (le-leb (controls m n) (length lattice) h, le-leb (lattice_file_length m n) (length output) k)

-- ---- what is known where the lengths have passed

module _ (c : Else-output-row_start) where
  stored : controls c.args.m c.args.n ≤ length c.args.lattice.now
  stored = omega arith

  room : lattice_file_length c.args.m c.args.n ≤ length c.args.output.now
  unfolding lattice_file_length
  room = omega (arith, c.row_start.ensures.0 ∙ ap (row_start c.args.m) c.rows.ensures)

  judged : write_lattice_check c.args.m c.args.n c.args.lattice.now c.args.output.now ≡ lattice_check c.args.m c.args.n c.args.lattice.now
  judged = last _ _ c.in_ok-cells.ensures _ _ stored room

-- ---- the goals

pub returns-in_err-cells : goal.returns-in_err-cells
unfolding write_lattice_check write_lattice_call
returns-in_err-cells c =
    let p = err_from_is_err_and c.from_residual.result c.from_residual.ensures.1 in
    rw (p.1, p.2) (call_refused _ _ _ _ _ (then_some _ _ (sym c.in_err-cells.ensures)))

pub invariant_of-cells : goal.invariant_of-cells
invariant_of-cells c = record { few = bounds _ _ c.in_ok-cells.ensures }

pub returns-then-lattice-controls : goal.returns-then-lattice-controls
unfolding write_lattice_call require ◌then◌
returns-then-lattice-controls c =
    let a = c.args in
    call_refused _ _ _ _ _ (rest a.m a.n c.in_ok-cells.ensures a.lattice.now a.output.now ∙ rw (lt-leb (controls a.m a.n) (length a.lattice.now) (omega arith)))

pub returns-then-output-row_start : goal.returns-then-output-row_start
unfolding write_lattice_call require ◌then◌ lattice_file_length
returns-then-output-row_start c =
    let a = c.args in
    let end = c.row_start.ensures.0 ∙ ap (row_start a.m) c.rows.ensures in
    call_refused _ _ _ _ _
    (rest a.m a.n c.in_ok-cells.ensures a.lattice.now a.output.now
    ∙ rw (le-leb (controls a.m a.n) (length a.lattice.now) (omega arith), lt-leb (lattice_file_length a.m a.n) (length a.output.now) (omega (arith, end))))

pub returns-in_err-lattice : goal.returns-in_err-lattice
unfolding write_lattice_call
returns-in_err-lattice c =
    let p = err_from_is_err_and c.from_residual-in_err-lattice.result c.from_residual-in_err-lattice.ensures.1 in
    rw (p.1, p.2) (call_refused _ _ _ _ _ (judged (goal.at.returns-in_err-lattice c).Else-output-row_start ∙ sym c.in_err-lattice.ensures))

pub put_lattice-requires : goal.put_lattice-requires
put_lattice-requires c = let p = (goal.at.put_lattice-requires c).Else-output-row_start in (stored p, room p)

pub returns : goal.returns
unfolding write_lattice_call
returns c =
    ap₂ outcome (ap accepted c.put_lattice.ensures.bytes_written) c.put_lattice.ensures.output_after
    ∙ call_accepted _ _ _ _ (judged (goal.at.returns c).Else-output-row_start ∙ sym c.in_ok-lattice.ensures)
