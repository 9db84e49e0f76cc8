-- The head, the rows, the end and the room are judged in this order, and only then are the control values copied.
use Rattle.std.proofs.Common.{◌≡◌, refl, sym, ap, ap₂, ◌∙◌, List, ℕ, ◌+◌, ◌≤◌, ℤ, leb, length, arith}
use Rattle.std.proofs.Math.Option.{none, some}
use Rattle.std.proofs.lemmas.Result.{err_from_is_err_and}
use borrow.Author.Tests.{le-leb, lt-leb}
use Rattle.algebra.specs.Table.{over}
use Rattle.rules.specs.Grid.{controls}
use Rattle.rules.specs.Answers.{Refusal, require, ◌then◌, first_of, short, accepted, outcome}
use Rattle.rules.specs.Calls.{CellCounts}
use Rattle.rules.specs.LatticeFile.{Le, file_lattice, row_start, lattice_head_check, row_check, end_check}
use Rattle.rules.specs.LatticeFile.{lattice_file_check, read_lattice_check, read_lattice_call}
use Rattle.rules.proofs.Laws.Bytes.{record_fits}
use Rattle.rules.proofs.Laws.Checks.{then_first, then_none, then_some, call_refused, call_accepted}
use Rattle.lattice_records.specs.Judged.{file_cells}
use Rattle.lattice_reader.specs.Read.{lattice_from}
use Rattle.lattice_reader.proofs.read_lattice.Goals as goal
use Rattle.lattice_reader.proofs.read_lattice.Goals.{In_ok-end}

-- what the end has shown
ended : (m n : ℕ) (file : List ℕ) → none ≡ end_check m n file → row_start m (n + 3) ≤ length file
unfolding end_check Le
ended m n file e = omega (arith, record_fits Le refl file (row_start m (n + 3)) 4 (then_first _ _ (sym e)))

-- the checks after the head, which has shown these cells
module _ (file : List ℕ) (output : List ℤ) (cells : CellCounts) (is : cells ≡ file_cells file) (head : none ≡ lattice_head_check file) where
  body : lattice_file_check file ≡ (first_of (cells.n + 3) (row_check cells.m file) then end_check cells.m cells.n file)
  unfolding lattice_file_check
  body = rw is (then_none (lattice_head_check file) _ (sym head))

  bad_row : (r : Refusal) → some r ≡ first_of (cells.n + 3) (row_check cells.m file) → read_lattice_check file output ≡ some r
  unfolding read_lattice_check
  bad_row r e = then_some _ _ (body ∙ then_some _ _ (sym e))

  bad_end : (r : Refusal) → none ≡ first_of (cells.n + 3) (row_check cells.m file) → some r ≡ end_check cells.m cells.n file → read_lattice_check file output ≡ some r
  unfolding read_lattice_check
  bad_end r rows e = then_some _ _ (body ∙ then_none _ _ (sym rows) ∙ sym e)

  room : none ≡ first_of (cells.n + 3) (row_check cells.m file) → none ≡ end_check cells.m cells.n file
      → read_lattice_check file output ≡ require (leb (controls cells.m cells.n) (length output)) short
  unfolding read_lattice_check
  room rows end = rw is (then_none _ _ (body ∙ then_none _ _ (sym rows) ∙ sym end))

judged : (c : In_ok-end) → read_lattice_check c.args.file.now c.args.output.now ≡ require (leb (controls c.in_ok-cells.cells.m c.in_ok-cells.cells.n) (length c.args.output.now)) short
judged c = room _ _ _ c.in_ok-cells.ensures.read c.in_ok-cells.ensures.checked c.in_ok-rows.ensures c.in_ok-end.ensures

pub returns-in_err-cells : goal.returns-in_err-cells
unfolding lattice_file_check read_lattice_check read_lattice_call
returns-in_err-cells c =
    let p = err_from_is_err_and c.from_residual.result c.from_residual.ensures.1 in
    rw (p.1, p.2) (call_refused _ _ _ _ _ (then_some _ _ (then_some _ _ (sym c.in_err-cells.ensures.checked))))

pub returns-in_err-rows : goal.returns-in_err-rows
unfolding read_lattice_call
returns-in_err-rows c =
    let p = err_from_is_err_and c.from_residual-in_err-rows.result c.from_residual-in_err-rows.ensures.1 in
    rw (p.1, p.2) (call_refused _ _ _ _ _ (bad_row _ _ _ c.in_ok-cells.ensures.read c.in_ok-cells.ensures.checked _ c.in_err-rows.ensures))

pub returns-in_err-end : goal.returns-in_err-end
unfolding read_lattice_call
returns-in_err-end c =
    let p = err_from_is_err_and c.from_residual-in_err-end.result c.from_residual-in_err-end.ensures.1 in
    rw (p.1, p.2) (call_refused _ _ _ _ _ (bad_end _ _ _ c.in_ok-cells.ensures.read c.in_ok-cells.ensures.checked _ c.in_ok-rows.ensures c.in_err-end.ensures))

pub returns-then-output-controls : goal.returns-then-output-controls
unfolding read_lattice_call require
returns-then-output-controls c =
    let end = (goal.at.returns-then-output-controls c).In_ok-end in
    let few = lt-leb (controls c.in_ok-cells.cells.m c.in_ok-cells.cells.n) (length c.args.output.now) (omega arith) in
    call_refused _ _ _ _ _ (judged end ∙ rw few)

pub copy-requires : goal.copy-requires
copy-requires c = (ended _ _ _ c.in_ok-end.ensures, omega arith)

pub returns : goal.returns
unfolding read_lattice_call file_lattice require
returns c =
    let file = c.args.file.now in
    let output = c.args.output.now in
    let cells = c.in_ok-cells.ensures.read in
    let fits = le-leb (controls c.in_ok-cells.cells.m c.in_ok-cells.cells.n) (length output) (omega arith) in
    ap₂ outcome (ap accepted cells) (c.copy.ensures ∙ ap (λ (k : CellCounts). over (lattice_from k.m k.n file) output) cells)
    ∙ call_accepted _ _ _ _ (judged (goal.at.returns c).In_ok-end ∙ rw fits)
