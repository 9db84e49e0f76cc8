-- Each refusal is the first check that fails, and behind the last check the lattice can be refined.
use Rattle.std.proofs.Common.{◌≡◌, ℕ, ◌*◌, ◌≤◌, ◌&&◌, List, length, ℤ, leb, sym, ap, ◌∙◌, le-leb, arith}
use Rattle.std.proofs.lemmas.Bool.{lt-leb}
use Rattle.std.proofs.lemmas.Result.{err_from_is_err_and}
use Rattle.std.proofs.Math.Option.{none}
use Rattle.rules.specs.Answers.{short, require, ◌then◌, outcome}
use Rattle.rules.specs.Grid.{controls}
use Rattle.rules.specs.Calls.{cells_check, lattice_check, refine_check, refine_call}
use Rattle.rules.proofs.Laws.Checks.{then_none, then_some, call_refused, call_accepted}
use Rattle.rules.proofs.Laws.Passed.{cells_passed, lattice_passed}
use Rattle.refinement.proofs.refine.Goals as goal
use Rattle.refinement.proofs.refine.Goals.{In_ok-cells}

-- ---- the checks, as far as they have passed

module _ (m n : ℕ) (l o : List ℤ) (cells : cells_check 256 m n ≡ none) where
  lengths : refine_check m n l o ≡ (require (leb (controls m n) (length l) && leb (controls (2 * m) (2 * n)) (length o)) short then lattice_check m n l)
  unfolding refine_check
  lengths = then_none _ _ cells

  last : controls m n ≤ length l → controls (2 * m) (2 * n) ≤ length o → refine_check m n l o ≡ lattice_check m n l
  unfolding ◌then◌ require
  last long room = lengths ∙ rw (le-leb (controls m n) (length l) long, le-leb (controls (2 * m) (2 * n)) (length o) room)

-- what the check of the counts leaves
module _ (c : In_ok-cells) where
  passed : cells_check 256 c.args.m c.args.n ≡ none
  passed = sym c.in_ok-cells.ensures

  sides : (1 ≤ c.args.m) × (c.args.m ≤ 256) × (1 ≤ c.args.n) × (c.args.n ≤ 256)
  sides = cells_passed 256 c.args.m c.args.n passed

-- ---- what it returns

pub returns-in_err-cells : goal.returns-in_err-cells
unfolding refine_call refine_check
returns-in_err-cells c =
    let p = err_from_is_err_and c.from_residual.result c.from_residual.ensures.1 in
    rw (p.1, p.2) (call_refused _ _ _ _ _ (then_some _ _ (sym c.in_err-cells.ensures)))

pub returns-then-lattice-controls : goal.returns-then-lattice-controls
unfolding refine_call ◌then◌ require
returns-then-lattice-controls c =
    call_refused _ _ _ _ _
    (lengths _ _ _ _ (passed ((goal.at.returns-then-lattice-controls c).In_ok-cells)) ∙ rw (lt-leb _ _ (rw c.controls.ensures at c.if-lattice-controls.true)))

pub returns-then-output-controls : goal.returns-then-output-controls
unfolding refine_call ◌then◌ require
returns-then-output-controls c =
    call_refused _ _ _ _ _
    (lengths _ _ _ _ (passed ((goal.at.returns-then-output-controls c).In_ok-cells))
    ∙ rw (le-leb _ _ (rw c.controls.ensures at c.if-lattice-controls.false), lt-leb _ _ (rw c.controls-2.ensures at c.if-output-controls.true)))

pub returns-in_err-lattice : goal.returns-in_err-lattice
unfolding refine_call
returns-in_err-lattice c =
    let p = err_from_is_err_and c.from_residual-in_err-lattice.result c.from_residual-in_err-lattice.ensures.1 in
    rw (p.1, p.2)
    (call_refused _ _ _ _ _
    (last _ _ _ _ (passed ((goal.at.returns-in_err-lattice c).In_ok-cells)) (rw c.controls.ensures at c.if-lattice-controls.false) (rw c.controls-2.ensures at c.if-output-controls.false)
    ∙ sym c.in_err-lattice.ensures))

pub returns : goal.returns
unfolding refine_call
returns c =
    ap (outcome _) c.refine_within.ensures
    ∙ call_accepted _ _ _ _
    (last _ _ _ _ (passed ((goal.at.returns c).In_ok-cells)) (rw c.controls.ensures at c.if-lattice-controls.false) (rw c.controls-2.ensures at c.if-output-controls.false)
    ∙ sym c.in_ok-lattice.ensures)

-- ---- what its steps ask

pub overflow_mul-refined : goal.overflow_mul-refined
overflow_mul-refined c = omega (arith, sides c)

pub overflow_mul-refined-2 : goal.overflow_mul-refined-2
overflow_mul-refined-2 c = omega (arith, sides c)

pub invariant_of-cells : goal.invariant_of-cells
invariant_of-cells c = let d = sides c in record { few = (omega (arith, d), omega (arith, d)) }

pub invariant_of-refined : goal.invariant_of-refined
invariant_of-refined c = let d = sides (goal.at.invariant_of-refined c).In_ok-cells in record { few = (omega (arith, d), omega (arith, d)) }

pub refine_within-requires : goal.refine_within-requires
refine_within-requires c =
    let d = sides ((goal.at.refine_within-requires c).In_ok-cells) in
    record {
      few = (d.1, d.3);
      stored = rw c.controls.ensures at c.if-lattice-controls.false;
      ranged = lattice_passed _ _ _ (sym c.in_ok-lattice.ensures);
      room = rw c.controls-2.ensures at c.if-output-controls.false;
    }
