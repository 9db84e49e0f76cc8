-- Each refusal is the first check that fails, and behind the last check the lattice can be read.
use Rattle.std.proofs.Common.{◌≡◌, ℕ, ◌*◌, ◌≤◌, ◌<◌, ◌&&◌, List, ℤ, refl, sym, ◌∙◌, arith}
use Rattle.std.proofs.Math.Option.{none, some}
use borrow.Author.Tests.{lt-leb, le-leb}
use Rattle.rules.specs.Answers.{Refusal, position, require, ◌then◌}
use Rattle.rules.specs.Grid.{inside}
use Rattle.rules.specs.Calls.{height_check}
use Rattle.rules.proofs.Laws.Checks.{then_none, then_some, then_assoc}
use Rattle.rules.specs.Laws.Passed.{Gridded}
use Rattle.rules.proofs.Laws.Passed.{last_fits}
use Rattle.std.proofs.lemmas.Result.{err_from_is_err_and}
use Rattle.grid.specs.declared.Grid.{Grid}
use Rattle.checks.specs.Ready.{grid_check, stored_check, Behind}
use Rattle.checks.specs.Passed.{stored_passed, grid_none, grid_refused, tells_grid, tells_refusal}
use Rattle.heights.proofs.readable.Goals as goal
use Rattle.heights.proofs.readable.Goals.{In_ok-stored}

-- ---- the refusal at each check

module _ (m n U : ℕ) (l : List ℤ) (x y : ℕ) where
  grouped : height_check m n U l x y ≡ (grid_check m n U then stored_check m n l then require (inside U m x && inside U n y) (position 0))
  unfolding height_check grid_check stored_check
  grouped = simp then_assoc

  by_grid : {r : Refusal} → grid_check m n U ≡ some r → height_check m n U l x y ≡ some r
  by_grid e = grouped ∙ then_some _ _ e

  module _ (grid : grid_check m n U ≡ none) where
    by_stored : {r : Refusal} → stored_check m n l ≡ some r → height_check m n U l x y ≡ some r
    by_stored e = grouped ∙ then_none _ _ grid ∙ then_some _ _ e

    module _ (stored : stored_check m n l ≡ none) where
      last : height_check m n U l x y ≡ require (inside U m x && inside U n y) (position 0)
      last = grouped ∙ then_none _ _ grid ∙ then_none _ _ stored

      by_x : U * m < x → height_check m n U l x y ≡ some (position 0)
      unfolding require inside
      by_x h = last ∙ rw (lt-leb x (U * m) h)

      by_y : x ≤ U * m → U * n < y → height_check m n U l x y ≡ some (position 0)
      unfolding require inside
      by_y h k = last ∙ rw (le-leb x (U * m) h, lt-leb y (U * n) k)

      by_none : x ≤ U * m → y ≤ U * n → height_check m n U l x y ≡ none
      unfolding require inside
      by_none h k = last ∙ rw (le-leb x (U * m) h, le-leb y (U * n) k)

-- ---- what is known behind each check

-- the check of a lattice on the grid's cells is that of the caller's
same_check : {m n U : ℕ} {P : ℕ → Type 0} {g : Grid} → (l : List ℤ) → Behind m n U P g → stored_check m n l ≡ stored_check g.cells.m g.cells.n l
same_check l b = rw (b.m_is, b.n_is) refl

module _ (c : In_ok-stored) where
  behind : Behind c.args.m c.args.n c.args.unit (Gridded c.args.m c.args.n) c.in_ok-grid.grid
  behind = c.gridded.ensures.behind _ c.in_ok-grid.was

  grid_passed : grid_check c.args.m c.args.n c.args.unit ≡ none
  grid_passed = grid_none c.gridded.ensures c.in_ok-grid.was

  stored_passes : stored_check c.args.m c.args.n c.args.lattice.now ≡ none
  stored_passes = same_check _ behind ∙ sym c.in_ok-stored.ensures

-- ---- what the steps ask

pub overflow_mul-unit : goal.overflow_mul-unit
overflow_mul-unit c = let b = behind ((goal.at.overflow_mul-unit c).In_ok-stored) in omega (arith, last_fits _ _ b.unit_is b.holds.e_most b.holds.m_most)

pub overflow_mul-unit-2 : goal.overflow_mul-unit-2
overflow_mul-unit-2 c = let b = behind ((goal.at.overflow_mul-unit-2 c).In_ok-stored) in omega (arith, last_fits _ _ b.unit_is b.holds.e_most b.holds.n_most)

-- ---- what it returns

pub returns-in_err-grid : goal.returns-in_err-grid
returns-in_err-grid c =
    let p = err_from_is_err_and c.from_residual.result c.from_residual.ensures.1 in
    rw (p.1, p.2) (tells_refusal (by_grid _ _ _ _ _ _ (grid_refused c.in_err-grid.ensures refl)))

pub returns-in_err-stored : goal.returns-in_err-stored
returns-in_err-stored c =
    let b = c.gridded.ensures.behind _ c.in_ok-grid.was in
    let p = err_from_is_err_and c.from_residual-in_err-stored.result c.from_residual-in_err-stored.ensures.1 in
    rw (p.1, p.2) (tells_refusal (by_stored _ _ _ _ _ _ (grid_none c.gridded.ensures c.in_ok-grid.was) (same_check _ b ∙ sym c.in_err-stored.ensures)))

pub returns-then-unit-m : goal.returns-then-unit-m
returns-then-unit-m c =
    let p = (goal.at.returns-then-unit-m c).In_ok-stored in
    tells_refusal (by_x _ _ _ _ _ _ (grid_passed p) (stored_passes p) c.if-unit-m.true)

pub returns-then-unit-n : goal.returns-then-unit-n
returns-then-unit-n c =
    let p = (goal.at.returns-then-unit-n c).In_ok-stored in
    tells_refusal (by_y _ _ _ _ _ _ (grid_passed p) (stored_passes p) c.if-unit-m.false c.if-unit-n.true)

pub returns : goal.returns
returns c =
    let p = (goal.at.returns c).In_ok-stored in
    let b = behind p in
    let s = stored_passed _ _ _ (stored_passes p) in
    tells_grid (by_none _ _ _ _ _ _ (grid_passed p) (stored_passes p) c.if-unit-m.false c.if-unit-n.false)
    (record {
      m_is = b.m_is;
      n_is = b.n_is;
      unit_is = b.unit_is;
      holds = record { grounded = record { grid = b.holds; long = s.0; ranged = s.1 }; x_inside = rw b.unit_is at c.if-unit-m.false; y_inside = rw b.unit_is at c.if-unit-n.false };
    })
