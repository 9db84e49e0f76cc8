-- Each refusal is the first check that fails, and behind the last check the nodes can be read.
use Rattle.std.proofs.Common.{◌≡◌, refl, sym, ap, ◌∙◌, Bool, true, false, ◌&&◌, ℕ, ◌*◌, ◌^◌, ◌≤◌, ◌<◌, List, ℤ, length, le-leb}
use Rattle.std.proofs.Math.Option.{none, some}
use Rattle.std.proofs.Math.Dec.{leb}
use borrow.Author.Tests.{lt-leb}
use Rattle.rules.specs.Answers.{Refusal, Check, short, require, ◌then◌}
use Rattle.rules.specs.Grid.{controls}
use Rattle.rules.specs.Calls.{Nodes, cells_check, unit_check, lattice_check, raster_check, size_check, nodes_check}
use Rattle.rules.proofs.Laws.Checks.{then_none, then_some, then_assoc}
use Rattle.rules.specs.Laws.Passed.{Gridded}
use Rattle.rules.proofs.Laws.Passed.{last_fits}
use Rattle.std.proofs.lemmas.Result.{err_from_is_err_and}
use Rattle.grid.specs.declared.Grid.{Grid}
use Rattle.checks.specs.Ready.{grid_check, stored_check, Behind}
use Rattle.checks.specs.Passed.{stored_passed, grid_none, grid_refused, tells_grid, tells_refusal}
use Rattle.nodes.specs.Inside.{size_passed, nodes_inside}
use Rattle.raster.proofs.samplable.Goals as goal
use Rattle.raster.proofs.samplable.Goals.{In_ok-grid, In_ok-sizes}

-- ---- the refusal at each check

short_room : (long : Bool) → require (long && false) short ≡ some short
unfolding require
short_room true = refl
short_room false = refl

long_room : (long : Bool) → (long && true) ≡ long
long_room true = refl
long_room false = refl

module _ (m n U : ℕ) (l : List ℤ) (g : Nodes) {room : ℕ} (d : List ℤ) (is : length d ≡ room) where
  abbrev Raster : Check
  Raster = raster_check m n U l g d

  grouped : Raster
      ≡ (grid_check m n U
      then size_check g.step g.across g.down
      then require (leb (controls m n) (length l) && leb (g.across * g.down) room) short
      then lattice_check m n l
      then nodes_check (U * m) (U * n) g)
  unfolding raster_check grid_check
  grouped = rw (← is) (sym (then_assoc (cells_check 512 m n) (unit_check U) _))

  by_grid : {r : Refusal} → grid_check m n U ≡ some r → Raster ≡ some r
  by_grid e = grouped ∙ then_some _ _ e

  module _ (grid : grid_check m n U ≡ none) where
    by_sizes : {r : Refusal} → size_check g.step g.across g.down ≡ some r → Raster ≡ some r
    by_sizes e = grouped ∙ then_none _ _ grid ∙ then_some _ _ e

    module _ (sized : size_check g.step g.across g.down ≡ none) where
      by_room : room < g.across * g.down → Raster ≡ some short
      by_room h =
          grouped ∙ then_none _ _ grid ∙ then_none _ _ sized
          ∙ then_some _ _ (ap (λ b. require (leb (controls m n) (length l) && b) short) (lt-leb (g.across * g.down) room h) ∙ short_room (leb (controls m n) (length l)))

      module _ (fits : g.across * g.down ≤ room) where
        behind_room : Raster ≡ (stored_check m n l then nodes_check (U * m) (U * n) g)
        unfolding stored_check
        behind_room =
            grouped ∙ then_none _ _ grid ∙ then_none _ _ sized
            ∙ rw (le-leb (g.across * g.down) room fits, long_room (leb (controls m n) (length l))) (sym (then_assoc _ (lattice_check m n l) _))

        by_stored : {r : Refusal} → stored_check m n l ≡ some r → Raster ≡ some r
        by_stored e = behind_room ∙ then_some _ _ e

        by_nodes : {c : Check} → stored_check m n l ≡ none → nodes_check (U * m) (U * n) g ≡ c → Raster ≡ c
        by_nodes s e = behind_room ∙ then_none _ _ s ∙ e

-- ---- what is known behind each check

-- the checks of a lattice and of nodes on a grid are those on the caller's
same_stored : {m n U : ℕ} {P : ℕ → Type 0} {g : Grid} → (l : List ℤ) → Behind m n U P g → stored_check m n l ≡ stored_check g.cells.m g.cells.n l
same_stored l b = rw (b.m_is, b.n_is) refl

same_nodes : {m n U : ℕ} {P : ℕ → Type 0} {g : Grid} → (nodes : Nodes) → Behind m n U P g
    → nodes_check (U * m) (U * n) nodes ≡ nodes_check (2 ^ g.e * g.cells.m) (2 ^ g.e * g.cells.n) nodes
same_nodes nodes b = rw (b.m_is, b.n_is, b.unit_is) refl

module _ (c : In_ok-grid) where
  behind : Behind c.args.m c.args.n c.args.unit (Gridded c.args.m c.args.n) c.in_ok-grid.grid
  behind = c.gridded.ensures.behind _ c.in_ok-grid.was

  grid_passed : grid_check c.args.m c.args.n c.args.unit ≡ none
  grid_passed = grid_none c.gridded.ensures c.in_ok-grid.was

module _ (c : In_ok-sizes) where
  sizes_passed : size_check c.args.nodes.step c.args.nodes.columns c.args.nodes.rows ≡ none
  sizes_passed = sym c.in_ok-sizes.ensures

  sides : (c.args.nodes.columns ≤ 8_193) × (c.args.nodes.rows ≤ 8_193)
  sides = size_passed _ _ _ sizes_passed

-- ---- the goals

pub returns-in_err-grid : goal.returns-in_err-grid
returns-in_err-grid c d h =
    let p = err_from_is_err_and c.from_residual.result c.from_residual.ensures.1 in
    rw (p.1, p.2) (tells_refusal (by_grid _ _ _ _ _ d h (grid_refused c.in_err-grid.ensures refl)))

pub returns-in_err-sizes : goal.returns-in_err-sizes
returns-in_err-sizes c d h =
    let at = (goal.at.returns-in_err-sizes c).In_ok-grid in
    let p = err_from_is_err_and c.from_residual-in_err-sizes.result c.from_residual-in_err-sizes.ensures.1 in
    rw (p.1, p.2) (tells_refusal (by_sizes _ _ _ _ _ d h (grid_passed at) (sym c.in_err-sizes.ensures)))

pub count-requires : goal.count-requires
count-requires c = sides ((goal.at.count-requires c).In_ok-sizes)

pub returns-then-room-count : goal.returns-then-room-count
returns-then-room-count c d h =
    let at = goal.at.returns-then-room-count c in
    tells_refusal (by_room _ _ _ _ _ d h (grid_passed at.In_ok-grid) (sizes_passed at.In_ok-sizes) (rw c.count.ensures at c.if-room-count.true))

pub returns-in_err-stored : goal.returns-in_err-stored
returns-in_err-stored c d h =
    let at = goal.at.returns-in_err-stored c in
    let p = err_from_is_err_and c.from_residual-in_err-stored.result c.from_residual-in_err-stored.ensures.1 in
    rw (p.1, p.2)
    (tells_refusal
    (by_stored _ _ _ _ _ d h (grid_passed at.In_ok-grid) (sizes_passed at.In_ok-sizes) (rw c.count.ensures at c.if-room-count.false)
    (same_stored _ (behind at.In_ok-grid) ∙ sym c.in_err-stored.ensures)))

pub positions-requires : goal.positions-requires
positions-requires c =
    let g = c.in_ok-grid.grid.gridded in
    let s = sides ((goal.at.positions-requires c).In_ok-sizes) in
    (last_fits _ _ c.unit-unit.ensures g.e_most g.m_most, last_fits _ _ c.unit-unit.ensures g.e_most g.n_most, c.requires, s.0, s.1)

pub returns-in_err-positions : goal.returns-in_err-positions
returns-in_err-positions c d h =
    let at = goal.at.returns-in_err-positions c in
    let b = behind at.In_ok-grid in
    let p = err_from_is_err_and c.from_residual-in_err-positions.result c.from_residual-in_err-positions.ensures.1 in
    rw (p.1, p.2)
    (tells_refusal
    (by_nodes _ _ _ _ _ d h (grid_passed at.In_ok-grid) (sizes_passed at.In_ok-sizes) (rw c.count.ensures at c.if-room-count.false)
    (same_stored _ b ∙ sym c.in_ok-stored.ensures) (same_nodes _ b ∙ sym (rw c.unit-unit.ensures at c.in_err-positions.ensures))))

pub returns : goal.returns
returns c d h =
    let at = goal.at.returns c in
    let b = behind at.In_ok-grid in
    let fits = rw c.count.ensures at c.if-room-count.false in
    let stored = same_stored _ b ∙ sym c.in_ok-stored.ensures in
    let none_out = same_nodes _ b ∙ sym (rw c.unit-unit.ensures at c.in_ok-positions.ensures) in
    let s = stored_passed _ _ _ stored in
    tells_grid (by_nodes _ _ _ _ _ d h (grid_passed at.In_ok-grid) (sizes_passed at.In_ok-sizes) fits stored none_out)
    (record {
      m_is = b.m_is;
      n_is = b.n_is;
      unit_is = b.unit_is;
      holds = record { grounded = record { grid = b.holds; long = s.0; ranged = s.1 }; inside = rw b.unit_is at (nodes_inside _ _ _ none_out); fits = fits };
    })
