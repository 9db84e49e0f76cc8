-- It is refused as its checks say, and behind them tells what the nodes are.
use Rattle.std.proofs.Common.{◌≡◌, refl, ◌∙◌, Bool, List, ℕ, ◌^◌, ℤ}
use Rattle.std.proofs.Math.Option.{none, some}
use Rattle.machine.specs.Tests.{plain}
use Rattle.rules.specs.Answers.{Refusal, accepted, refused}
use Rattle.rules.specs.Calls.{Nodes}
use Rattle.rules.specs.Above.{above_check, above_answer, any_above}
use Rattle.rules.proofs.Laws.Checks.{none_answer, some_answer}
use Rattle.std.proofs.lemmas.Result.{err_from_is_err_and}
use Rattle.grid.specs.declared.Grid.{Grid}
use Rattle.checks.specs.Ready.{Behind}
use Rattle.checks.specs.Passed.{grid_none, grid_refused}
use Rattle.above.proofs.any_above.Goals as goal

module _ (m n U : ℕ) (l : List ℤ) (g : Nodes) {z stage : ℤ} (is : z ≡ stage) where
  same : {P : ℕ → Type 0} {grid : Grid} → Behind m n U P grid → any_above grid.cells.m grid.cells.n (2 ^ grid.e) l g z ≡ any_above m n U l g stage
  same b = rw (b.m_is, b.n_is, b.unit_is, is) refl

  -- behind the checks the answer is what was found on the grid
  by_nodes : {P : ℕ → Type 0} {grid : Grid} {b : Bool} → Behind m n U P grid → above_check m n U l g z ≡ none
      → b ≡ any_above grid.cells.m grid.cells.n (2 ^ grid.e) l g z → accepted b ≡ above_answer m n U l g stage
  unfolding above_answer
  by_nodes b c f = none_answer _ (rw is at c) (f ∙ same b)

  by_checks : {r : Refusal} → above_check m n U l g z ≡ some r → refused r ≡ above_answer m n U l g stage
  unfolding above_answer
  by_checks c = some_answer _ (rw is at c)

pub returns-in_err-grid : goal.returns-in_err-grid
returns-in_err-grid c =
    let p = err_from_is_err_and c.from_residual.result c.from_residual.ensures.1 in
    rw (p.1, p.2, ← c.at_default-stepped.ensures.0)
    (by_checks _ _ _ _ _ (plain c.args.stage c.ranges.stage.sfits) (grid_refused c.in_err-grid.ensures refl))

pub above_within-requires : goal.above_within-requires
above_within-requires c =
    let b = c.inspectable.ensures.behind _ c.in_ok-grid.was in
    (c.at_default-stepped.ensures.1, rw (b.m_is, b.n_is) b.holds)

pub returns : goal.returns
returns c =
    let t = c.inspectable.ensures in
    let i = c.in_ok-grid.was in
    rw (← c.at_default-stepped.ensures.0)
    (by_nodes _ _ _ _ _ (plain c.args.stage c.ranges.stage.sfits) (t.behind _ i) (grid_none t i) c.above_within.ensures)
