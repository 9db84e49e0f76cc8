-- The residuals passed are lowered and none is out of range; those to lower are as they were.
use Rattle.std.proofs.Common.{◌≡◌, ℕ, ◌<◌, not, refl, ap, List, ◌^◌, ◌≤◌, ℤ, nat_abs, length, get_or, arith}
use Rattle.std.proofs.Math.Pow.{pow_pos}
use Rattle.machine.specs.Held.{Number, number, read, minus, fits}
use Rattle.rules.specs.Grid.{limit, control}
use Rattle.rules.specs.Surface.{height}
use Rattle.rules.proofs.Laws.Surface.{control_within, height_within}
use Rattle.basis.specs.Weighing.{Readable}
use Rattle.fit_steps.specs.Entries.{ahead_held}
use Rattle.fit_steps.specs.Tested.{untested, passed_front, refused, accepted}
use Rattle.lowering.specs.Lowered.{less_heights}
use Rattle.lowering.proofs.lower.Goals as goal
use Rattle.lowering.proofs.lower.Goals.{In-loop-i}

-- ---- what a turn reads

module _ (c : In-loop-i) where
  abbrev xs : List ℕ
  xs = c.args.points.now.xs.now

  -- the position of the point
  abbrev x : ℕ
  x = get_or c.args.points.now.xs.now c.loop-i.i 0

  abbrev y : ℕ
  y = get_or c.args.points.now.ys.now c.loop-i.i 0

  below : c.loop-i.i < length xs
  below = omega arith

  readable : Readable c.args.grid.cells.m c.args.grid.cells.n c.args.grid.e c.args.level.now x y
  readable =
      let p = c.requires in
      record {
        grounded = record { grid = c.args.grid.gridded; long = p.level_stored; ranged = p.level_ranged };
        x_inside = p.x_inside c.loop-i.i below;
        y_inside = p.y_inside c.loop-i.i below;
      }

  -- the height there
  abbrev there : ℤ
  there = height (2 ^ c.args.grid.e) c.args.grid.cells.m c.args.grid.cells.n (control c.args.grid.cells.m c.args.level.now) x y

  there_size : nat_abs there ≤ limit
  there_size =
      let g = c.args.grid in
      height_within (2 ^ g.e) g.cells.m g.cells.n _ _
      (record { unit = pow_pos g.e; across = g.gridded.m_some; up = g.gridded.n_some; x_inside = readable.x_inside; y_inside = readable.y_inside })
      (control g.cells.m c.args.level.now) limit (control_within g.cells.m g.cells.n c.args.level.now c.requires.level_ranged)

  -- the residual less the height h that was read
  abbrev left : (h : ℤ) → h ≡ there → Number
  left h is =
      number
      (minus (ahead_held c.loop-i.invariant.partly (length c.args.residuals.now) c.loop-i.i (omega arith) (omega arith) c.requires.residuals_ranged)
      (read {x = h} tt (record { is = is; size = there_size })))

-- ---- what it leaves and answers

pub loop-i-init : goal.loop-i-init
loop-i-init c = untested 0 _ _ _

pub loop-i-preserved : goal.loop-i-preserved
loop-i-preserved c =
    passed_front c.loop-i.invariant (omega arith) (omega arith) (read tt (left (goal.at.loop-i-preserved c).In-loop-i _ c.height_within-there.ensures).held).is c.in_range.ensures refl
    (ap not c.if-not-in_range.false)

pub returns-then-not-in_range : goal.returns-then-not-in_range
unfolding less_heights
returns-then-not-in_range c =
    refused c.loop-i.invariant (omega arith) (omega arith) (read tt (left (goal.at.returns-then-not-in_range c).In-loop-i _ c.height_within-there.ensures).held).is c.in_range.ensures
    (ap not c.if-not-in_range.true)

pub returns : goal.returns
unfolding less_heights
returns c = accepted c.loop-i.invariant (omega arith) (omega arith)

-- ---- what its steps ask

pub overflow_sub-left : goal.overflow_sub-left
overflow_sub-left c = fits tt (left (goal.at.overflow_sub-left c).In-loop-i _ c.height_within-there.ensures).held
