-- It is refused as its checks say and then leaves the slice as it was, and behind them the heights are over it.
use Rattle.std.proofs.Common.{◌≡◌, refl, ap, ◌∙◌, List, ℕ, ◌*◌, ◌^◌, ◌≤◌, ℤ}
use Rattle.std.proofs.Math.Option.{none}
use Rattle.algebra.specs.Table.{tabulate, over}
use Rattle.rules.specs.Answers.{accepted, outcome}
use Rattle.rules.specs.Calls.{Nodes, cells_check, unit_check, size_check, node_height, raster_check, raster_call}
use Rattle.rules.proofs.Laws.Checks.{call_refused, call_accepted, then_both}
use Rattle.std.proofs.lemmas.Result.{err_from_is_err_and}
use Rattle.grid.specs.declared.Grid.{Grid}
use Rattle.checks.specs.Ready.{Behind}
use Rattle.checks.specs.Passed.{grid_none, grid_refused}
use Rattle.nodes.specs.Inside.{size_passed}
use Rattle.raster.proofs.raster.Goals as goal

module _ (m n U : ℕ) (l : List ℤ) (nodes : Nodes) (d : List ℤ) (passed : raster_check m n U l nodes d ≡ none) where
  sides : (nodes.across ≤ 8_193) × (nodes.down ≤ 8_193)
  unfolding raster_check
  sides =
      let a = then_both (cells_check 512 m n) _ passed in
      let b = then_both (unit_check U) _ a.1 in
      size_passed _ _ _ (then_both (size_check nodes.step nodes.across nodes.down) _ b.1).0

  -- behind its checks the raster's heights are over the slice
  fills : {P : ℕ → Type 0} {grid : Grid} {out : List ℤ} → Behind m n U P grid
      → out ≡ over (tabulate (nodes.across * nodes.down) (node_height grid.cells.m grid.cells.n (2 ^ grid.e) l nodes)) d
      → outcome (accepted (nodes.across * nodes.down)) out ≡ raster_call m n U l nodes d
  unfolding raster_call
  fills b q = ap (outcome _) (q ∙ rw (b.m_is, b.n_is, b.unit_is) refl) ∙ call_accepted _ _ _ d passed

pub returns-in_err-grid : goal.returns-in_err-grid
unfolding raster_call
returns-in_err-grid c =
    let p = err_from_is_err_and c.from_residual.result c.from_residual.ensures.1 in
    rw (p.1, p.2, ← c.at_default-stepped.ensures.0) (call_refused _ _ _ _ _ (grid_refused (c.in_err-grid.ensures c.args.output.now refl) refl))

pub raster_within-requires : goal.raster_within-requires
raster_within-requires c =
    let b = (c.samplable.ensures c.args.output.now refl).behind _ c.in_ok-grid.was in
    rw (b.m_is, b.n_is) b.holds

pub count-requires : goal.count-requires
count-requires c = sides _ _ _ _ _ _ (grid_none (c.samplable.ensures c.args.output.now refl) c.in_ok-grid.was)

pub returns : goal.returns
returns c =
    let t = c.samplable.ensures c.args.output.now refl in
    let i = c.in_ok-grid.was in
    rw (← c.at_default-stepped.ensures.0, c.count.ensures) (fills _ _ _ _ _ _ (grid_none t i) (t.behind _ i) c.raster_within.ensures)
