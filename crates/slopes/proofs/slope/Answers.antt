-- It is refused as a height's checks say, and behind them the lattice can be read.
use Rattle.std.proofs.Common.{◌≡◌, ℕ, ◌^◌, List, refl, ap₂, ◌∙◌, ℤ}
use Rattle.rules.specs.Answers.{Answer, accepted, answer}
use Rattle.rules.specs.Grid.{control}
use Rattle.rules.specs.Slope as rule
use Rattle.rules.specs.Calls.{Slopes, slope_answer}
use Rattle.std.proofs.lemmas.Result.{err_from_is_err_and}
use Rattle.grid.specs.declared.Grid.{Grid}
use Rattle.checks.specs.Ready.{Behind}
use Rattle.checks.specs.Passed.{grid_none, grid_refused}
use Rattle.slopes.proofs.slope.Goals as goal

abbrev both : ℤ → ℤ → Answer Slopes
both x y = accepted (record { along_x = x; along_y = y })

pub slopes_within-requires : goal.slopes_within-requires
slopes_within-requires c = let b = c.readable.ensures.behind _ c.in_ok-grid.was in rw (b.m_is, b.n_is) b.holds

pub returns-in_err-grid : goal.returns-in_err-grid
unfolding slope_answer answer
returns-in_err-grid c =
    let p = err_from_is_err_and c.from_residual.result c.from_residual.ensures.1 in
    rw (p.1, p.2, grid_refused c.in_err-grid.ensures refl) refl

-- a slope on the grid's cells is that on the caller's
module _ {m n U : ℕ} {P : ℕ → Type 0} {g : Grid} (b : Behind m n U P g) (l : List ℤ) (x y : ℕ) where
  on_x : rule.slope_x (2 ^ g.e) g.cells.m g.cells.n (control g.cells.m l) x y ≡ rule.slope_x U m n (control m l) x y
  on_x = rw (b.m_is, b.n_is, b.unit_is) refl

  on_y : rule.slope_y (2 ^ g.e) g.cells.m g.cells.n (control g.cells.m l) x y ≡ rule.slope_y U m n (control m l) x y
  on_y = rw (b.m_is, b.n_is, b.unit_is) refl

pub returns : goal.returns
unfolding slope_answer answer
returns c =
    let t = c.readable.ensures in
    let i = c.in_ok-grid.was in
    let b = t.behind _ i in
    let a = c.args in
    ap₂ both (c.slopes_within.ensures.x_slope ∙ on_x b a.lattice.now a.x a.y) (c.slopes_within.ensures.y_slope ∙ on_y b a.lattice.now a.x a.y)
    ∙ rw (grid_none t i) refl
