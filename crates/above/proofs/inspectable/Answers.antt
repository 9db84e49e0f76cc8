-- Each refusal is the first check that fails, and behind the last check the nodes can be read.
use Rattle.std.proofs.Common.{◌≡◌, refl, sym, ap, ◌∙◌, Bool, false, ℕ, ◌*◌, ◌^◌, ◌≤◌, ◌<◌, List, ℤ, length, le-leb}
use Rattle.std.proofs.Math.Option.{none, some}
use Rattle.std.proofs.Math.Dec.{leb}
use borrow.Author.Tests.{lt-leb}
use Rattle.machine.specs.Tests.{plain}
use Rattle.rules.specs.Answers.{Refusal, Check, short, range, require, ◌then◌}
use Rattle.rules.specs.Grid.{in_range, controls}
use Rattle.rules.specs.Calls.{Nodes, cells_check, unit_check, stage_check, lattice_check, size_check, nodes_check}
use Rattle.rules.specs.Above.{above_check}
use Rattle.rules.proofs.Laws.Checks.{then_none, then_some, then_assoc}
use Rattle.rules.specs.Laws.Passed.{Gridded}
use Rattle.rules.proofs.Laws.Passed.{last_fits, lattice_passed, stage_passed}
use Rattle.std.proofs.lemmas.Result.{err_from_is_err_and}
use Rattle.grid.specs.declared.Grid.{Grid}
use Rattle.checks.specs.Ready.{grid_check, Behind}
use Rattle.checks.specs.Passed.{grid_none, grid_refused, tells_grid, tells_refusal}
use Rattle.nodes.specs.Inside.{size_passed, nodes_inside}
use Rattle.above.proofs.inspectable.Goals as goal
use Rattle.above.proofs.inspectable.Goals.{In_ok-grid, In_ok-sizes, Else-lattice-controls, Else-not-in_range, In_ok-lattice}

-- ---- the refusal at each check

module _ (m n U : ℕ) (l : List ℤ) (g : Nodes) (stage : ℤ) where
  abbrev Whole : Check
  Whole = above_check m n U l g stage

  abbrev behind_sizes : Check
  behind_sizes = require (leb (controls m n) (length l)) short then stage_check stage then lattice_check m n l then nodes_check (U * m) (U * n) g

  grouped : Whole ≡ (grid_check m n U then size_check g.step g.across g.down then behind_sizes)
  unfolding above_check grid_check
  grouped = sym (then_assoc (cells_check 512 m n) (unit_check U) _)

  by_grid : {r : Refusal} → grid_check m n U ≡ some r → Whole ≡ some r
  by_grid e = grouped ∙ then_some _ _ e

  module _ (grid : grid_check m n U ≡ none) where
    by_sizes : {r : Refusal} → size_check g.step g.across g.down ≡ some r → Whole ≡ some r
    by_sizes e = grouped ∙ then_none _ _ grid ∙ then_some _ _ e

    module _ (sized : size_check g.step g.across g.down ≡ none) where
      sizes_behind : Whole ≡ behind_sizes
      sizes_behind = grouped ∙ then_none _ _ grid ∙ then_none _ _ sized

      by_short : length l < controls m n → Whole ≡ some short
      unfolding require
      by_short h = sizes_behind ∙ then_some _ _ (ap (λ b. require b short) (lt-leb (controls m n) (length l) h))

      module _ (long : controls m n ≤ length l) where
        short_behind : Whole ≡ (stage_check stage then lattice_check m n l then nodes_check (U * m) (U * n) g)
        unfolding require
        short_behind = sizes_behind ∙ then_none _ _ (ap (λ b. require b short) (le-leb (controls m n) (length l) long))

        by_stage : in_range stage ≡ false → Whole ≡ some (range 0)
        unfolding stage_check require
        by_stage e = short_behind ∙ then_some _ _ (ap (λ b. require b (range 0)) e)

        module _ (staged : stage_check stage ≡ none) where
          by_lattice : {r : Refusal} → lattice_check m n l ≡ some r → Whole ≡ some r
          by_lattice e = short_behind ∙ then_none _ _ staged ∙ then_some _ _ e

          by_nodes : {c : Check} → lattice_check m n l ≡ none → nodes_check (U * m) (U * n) g ≡ c → Whole ≡ c
          by_nodes s e = short_behind ∙ then_none _ _ staged ∙ then_none _ _ s ∙ e

-- ---- what is known behind each check

-- the checks of a lattice and of nodes on a grid are those on the caller's
same_lattice : {m n U : ℕ} {P : ℕ → Type 0} {g : Grid} → (l : List ℤ) → Behind m n U P g → lattice_check m n l ≡ lattice_check g.cells.m g.cells.n l
same_lattice l b = rw (b.m_is, b.n_is) refl

same_nodes : {m n U : ℕ} {P : ℕ → Type 0} {g : Grid} → (nodes : Nodes) → Behind m n U P g
    → nodes_check (U * m) (U * n) nodes ≡ nodes_check (2 ^ g.e * g.cells.m) (2 ^ g.e * g.cells.n) nodes
same_nodes nodes b = rw (b.m_is, b.n_is, b.unit_is) refl

-- as many control values as the grid has
same_count : {m n U : ℕ} {P : ℕ → Type 0} {g : Grid} → Behind m n U P g → {count : ℕ} → count ≡ controls g.cells.m g.cells.n → count ≡ controls m n
same_count b e = rw (b.m_is, b.n_is) at e

module _ (c : In_ok-grid) where
  behind : Behind c.args.m c.args.n c.args.unit (Gridded c.args.m c.args.n) c.in_ok-grid.grid
  behind = c.gridded.ensures.behind _ c.in_ok-grid.was

  grid_passed : grid_check c.args.m c.args.n c.args.unit ≡ none
  grid_passed = grid_none c.gridded.ensures c.in_ok-grid.was

module _ (c : In_ok-sizes) where
  sizes_passed : size_check c.args.nodes.step c.args.nodes.columns c.args.nodes.rows ≡ none
  sizes_passed = sym c.in_ok-sizes.ensures

  sides : (c.args.nodes.columns ≤ 8_193) × (c.args.nodes.rows ≤ 8_193)
  sides = size_passed _ _ _ sizes_passed

-- `in_range` was handed the stage's bits, read back
tested : {z stage : ℤ} {b : Bool} → z ≡ stage → b ≡ in_range z → b ≡ in_range stage
tested is e = e ∙ ap in_range is

staged : (c : Else-not-in_range) → stage_check c.args.stage ≡ none
unfolding stage_check require
staged c = ap (λ b. require b (range 0)) (sym (tested (plain c.args.stage c.ranges.stage.sfits) c.in_range.ensures) ∙ c.if-not-in_range.false)

-- ---- the goals

pub returns-in_err-grid : goal.returns-in_err-grid
returns-in_err-grid c =
    let p = err_from_is_err_and c.from_residual.result c.from_residual.ensures.1 in
    rw (p.1, p.2) (tells_refusal (by_grid _ _ _ _ _ _ (grid_refused c.in_err-grid.ensures refl)))

pub returns-in_err-sizes : goal.returns-in_err-sizes
returns-in_err-sizes c =
    let at = (goal.at.returns-in_err-sizes c).In_ok-grid in
    let p = err_from_is_err_and c.from_residual-in_err-sizes.result c.from_residual-in_err-sizes.ensures.1 in
    rw (p.1, p.2) (tells_refusal (by_sizes _ _ _ _ _ _ (grid_passed at) (sym c.in_err-sizes.ensures)))

pub returns-then-lattice-controls : goal.returns-then-lattice-controls
returns-then-lattice-controls c =
    let at = goal.at.returns-then-lattice-controls c in
    let count = same_count (behind at.In_ok-grid) c.controls.ensures in
    tells_refusal (by_short _ _ _ _ _ _ (grid_passed at.In_ok-grid) (sizes_passed at.In_ok-sizes) (rw count at c.if-lattice-controls.true))

long : (c : Else-lattice-controls) → controls c.args.m c.args.n ≤ length c.args.lattice.now
long c =
    let count = same_count (c.gridded.ensures.behind _ c.in_ok-grid.was) c.controls.ensures in
    rw count at c.if-lattice-controls.false

pub returns-then-not-in_range : goal.returns-then-not-in_range
returns-then-not-in_range c =
    let at = goal.at.returns-then-not-in_range c in
    tells_refusal
    (by_stage _ _ _ _ _ _ (grid_passed at.In_ok-grid) (sizes_passed at.In_ok-sizes) (long at.Else-lattice-controls)
    (sym (tested (plain c.args.stage c.ranges.stage.sfits) c.in_range.ensures) ∙ c.if-not-in_range.true))

pub returns-in_err-lattice : goal.returns-in_err-lattice
returns-in_err-lattice c =
    let at = goal.at.returns-in_err-lattice c in
    let p = err_from_is_err_and c.from_residual-in_err-lattice.result c.from_residual-in_err-lattice.ensures.1 in
    rw (p.1, p.2)
    (tells_refusal
    (by_lattice _ _ _ _ _ _ (grid_passed at.In_ok-grid) (sizes_passed at.In_ok-sizes) (long at.Else-lattice-controls) (staged at.Else-not-in_range)
    (same_lattice _ (behind at.In_ok-grid) ∙ sym c.in_err-lattice.ensures)))

pub positions-requires : goal.positions-requires
positions-requires c =
    let g = c.in_ok-grid.grid.gridded in
    let s = sides ((goal.at.positions-requires c).In_ok-sizes) in
    (last_fits _ _ c.unit-unit.ensures g.e_most g.m_most, last_fits _ _ c.unit-unit.ensures g.e_most g.n_most, c.requires, s.0, s.1)

pub returns-in_err-positions : goal.returns-in_err-positions
returns-in_err-positions c =
    let at = goal.at.returns-in_err-positions c in
    let b = behind at.In_ok-grid in
    let p = err_from_is_err_and c.from_residual-in_err-positions.result c.from_residual-in_err-positions.ensures.1 in
    rw (p.1, p.2)
    (tells_refusal
    (by_nodes _ _ _ _ _ _ (grid_passed at.In_ok-grid) (sizes_passed at.In_ok-sizes) (long at.Else-lattice-controls) (staged at.Else-not-in_range)
    (same_lattice _ b ∙ sym c.in_ok-lattice.ensures) (same_nodes _ b ∙ sym (rw c.unit-unit.ensures at c.in_err-positions.ensures))))

pub returns : goal.returns
returns c =
    let at = goal.at.returns c in
    let b = behind at.In_ok-grid in
    let many = long at.Else-lattice-controls in
    let stage_none = staged at.Else-not-in_range in
    let latticed = same_lattice _ b ∙ sym c.in_ok-lattice.ensures in
    let none_out = same_nodes _ b ∙ sym (rw c.unit-unit.ensures at c.in_ok-positions.ensures) in
    tells_grid (by_nodes _ _ _ _ _ _ (grid_passed at.In_ok-grid) (sizes_passed at.In_ok-sizes) many stage_none latticed none_out)
    (record {
      m_is = b.m_is;
      n_is = b.n_is;
      unit_is = b.unit_is;
      holds = record {
        grounded = record { grid = b.holds; long = many; ranged = lattice_passed _ _ _ latticed };
        inside = rw b.unit_is at (nodes_inside _ _ _ none_out);
        stage_size = stage_passed _ stage_none;
      };
    })
