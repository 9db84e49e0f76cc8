-- The heights of the four lines are in range, so the sum of products is theirs.
use Rattle.std.proofs.Common.{◌≡◌, ℕ, ◌+◌, ◌*◌, ◌^◌, ◌≤◌, ◌<◌, ℤ, nat_abs, ap, ◌∙◌, arith}
use Rattle.rules.specs.Slope.{slope_denominator}
use Rattle.basis.specs.Weighing.{numerators, line_height}
use Rattle.basis.specs.Sums.{line_within, four_small, step_is}
use Rattle.slopes.specs.Sloping.{line_slope}
use Rattle.slopes.proofs.axis_slope.Goals as goal
use Rattle.slopes.proofs.axis_slope.Goals.{Start}

-- ---- the lines, by the places that the code makes

module _ (c : Start) where
  -- the height of line k
  height : ℕ → ℤ
  height k = line_height c.args.lattice.now (c.args.q + k * c.args.next) c.args.apart c.args.b (2 ^ c.args.e)

  ranged : (k : ℕ) → 0 ≤ k → k < 0 + 4 → nat_abs (height k) ≤ 4_000_000_000
  unfolding height
  ranged k h i = line_within (c.requires.line k i)

  told : (k : ℕ) {p : ℕ} {z : ℤ} → p ≡ c.args.q + k * c.args.next → z ≡ line_height c.args.lattice.now p c.args.apart c.args.b (2 ^ c.args.e) → z ≡ height k
  unfolding height
  told k e i = i ∙ ap (λ p. line_height c.args.lattice.now p c.args.apart c.args.b (2 ^ c.args.e)) e

-- ---- what it returns

pub returns : goal.returns
unfolding line_slope height
returns c =
    let s = (goal.at.returns c).Start in
    step_is (height s) 0 (ranged s)
    (told s 0 (omega arith) c.line_height-h0.ensures)
    (told s 1 (omega arith) c.line_height-h1.ensures)
    (told s 2 (omega arith) c.line_height-h2.ensures)
    (told s 3 (omega arith) c.line_height-h3.ensures)
    (numerators c.args.s) (slope_denominator (2 ^ c.args.e))
    c.weighed.type_inv c.weighed.ensures.0 c.near_over_slope.type_inv c.near_over_slope.ensures

-- ---- what the steps ask

pub weighed-requires-clause-values_in_range : goal.weighed-requires-clause-values_in_range
weighed-requires-clause-values_in_range c =
    let s = (goal.at.weighed-requires-clause-values_in_range c).Start in
    four_small (height s) 0 (ranged s)
    (told s 0 (omega arith) c.line_height-h0.ensures)
    (told s 1 (omega arith) c.line_height-h1.ensures)
    (told s 2 (omega arith) c.line_height-h2.ensures)
    (told s 3 (omega arith) c.line_height-h3.ensures)
