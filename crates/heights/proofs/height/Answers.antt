-- It is refused as its checks say, and behind them the lattice can be read.
use Rattle.std.proofs.Common.{◌≡◌, ℕ, ◌^◌, List, ℤ, refl, ap, ◌∙◌}
use Rattle.machine.specs.Held.{returned}
use Rattle.rules.specs.Answers.{accepted, answer}
use Rattle.rules.specs.Grid.{control}
use Rattle.rules.specs.Surface as rule
use Rattle.rules.specs.Calls.{height_answer}
use Rattle.std.proofs.lemmas.Result.{err_from_is_err_and}
use Rattle.grid.specs.declared.Grid.{Grid}
use Rattle.checks.specs.Ready.{Behind}
use Rattle.checks.specs.Passed.{grid_none, grid_refused}
use Rattle.heights.proofs.height.Goals as goal

-- a height on the grid's cells is that on the caller's
height_on : {m n U : ℕ} {P : ℕ → Type 0} {g : Grid} → Behind m n U P g → (l : List ℤ) (x y : ℕ)
    → rule.height (2 ^ g.e) g.cells.m g.cells.n (control g.cells.m l) x y ≡ rule.height U m n (control m l) x y
height_on b l x y = rw (b.m_is, b.n_is, b.unit_is) refl

pub height_within-requires : goal.height_within-requires
height_within-requires c = let b = c.readable.ensures.behind _ c.in_ok-grid.was in rw (b.m_is, b.n_is) b.holds

pub returns-in_err-grid : goal.returns-in_err-grid
unfolding height_answer answer
returns-in_err-grid c =
    let p = err_from_is_err_and c.from_residual.result c.from_residual.ensures.1 in
    rw (p.1, p.2, grid_refused c.in_err-grid.ensures refl) refl

pub returns : goal.returns
unfolding height_answer answer
returns c =
    let t = c.readable.ensures in
    let i = c.in_ok-grid.was in
    let b = t.behind _ i in
    let a = c.args in
    ap accepted (returned c.height_within.type_inv c.height_within.ensures ∙ height_on b a.lattice.now a.x a.y)
    ∙ rw (grid_none t i) refl
