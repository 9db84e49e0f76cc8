-- A level is refused where one of its halves is, and leaves what the next level asks.
use Rattle.std.proofs.Common.{ap, List, ◌+◌, ◌*◌, arith, ℤ, length}
use Rattle.std.proofs.lemmas.Result.{err_from_is_err_and}
use Rattle.algebra.specs.Table.{free_wider, free_again}
use Rattle.rules.specs.Fit.{Shape, Survey}
use Rattle.answers.specs.Cause.{check}
use Rattle.survey.specs.Survey.{shape_of}
use Rattle.scratch.specs.Scratch.{Levelable, survey_with, Before, LevelReady}
use Rattle.levels.proofs.Stepping.{level_ready, level_refused, level_done}
use Rattle.levels.proofs.fit_level.Goals as goal
use Rattle.levels.proofs.fit_level.Goals.{After-level_grid-grid}

module _ (c : After-level_grid-grid) where
  abbrev a : Shape
  a = shape_of c.args.shape

  abbrev with : List ℤ → Survey
  with zs = survey_with c.args.points.now zs

  ready : (zs : List ℤ) → Levelable a (with zs) c.args.most (length c.args.whole.now) (length c.args.floats.now) → Before a (with zs) c.args.most c.args.k c.args.whole.now
      → LevelReady a (with zs) c.args.most c.args.k c.level_grid-grid.result.cells.m c.level_grid-grid.result.cells.n c.level_grid-grid.result.e c.args.whole.now (length c.args.floats.now)
  ready zs l b =
      let g = c.level_grid-grid in
      level_ready l b c.requires.1 g.ensures.m_is g.ensures.n_is g.ensures.unit_is g.result.gridded.e_most

pub settle_level-requires : goal.settle_level-requires
settle_level-requires c =
    let n = (goal.at.settle_level-requires c).After-level_grid-grid in
    let p = c.requires.0 in
    (a n, p.0, ready n p.0 p.1 p.2)

pub returns-in_err-settle_level-clause-whole_level : goal.returns-in_err-settle_level-clause-whole_level
returns-in_err-settle_level-clause-whole_level c =
    let n = (goal.at.returns-in_err-settle_level-clause-whole_level c).After-level_grid-grid in
    let r = err_from_is_err_and c.from_residual.result c.from_residual.ensures.1 in
    λ zs l b. rw (r.1, r.2) (level_refused (c.settle_level.ensures.first_half (a n) zs (ready n zs l b)) (ap check c.in_err-settle_level.was))

pub raise_level-requires : goal.raise_level-requires
raise_level-requires c =
    let n = (goal.at.raise_level-requires c).After-level_grid-grid in
    let p = c.requires.0 in
    let b = ready n p.0 p.1 p.2 in
    let half = c.settle_level.ensures.first_half (a n) p.0 b in
    ((a n, _, b.celled, (half.leaves (ap check c.in_ok-settle_level.was)).level_there), omega (arith, p.1, c.settle_level.auto.whole))

pub returns : goal.returns
returns c =
    let n = (goal.at.returns c).After-level_grid-grid in
    let p = c.requires.0.1 in
    let fine = ap check c.in_ok-settle_level.was in
    let long = c.settle_level.auto.whole in
    let half = c.settle_level.ensures in
    let raised = c.raise_level.ensures in
    record {
      whole_level =
          λ zs l b.
          let r = ready n zs l b in
          let h = half.first_half (a n) zs r in
          level_done h fine (omega (arith, p, long)) raised.free (raised.second_half (a n) _ r.celled (h.leaves fine).level_there);
      free = (
        free_again (omega (arith, p)) half.free.0
            (free_wider raised.free (omega (arith, p, long)) 0 (3 * c.args.most + length c.args.points.now.xs.now) (omega arith) (omega arith) (omega (arith, p, long))),
        half.free.1,
      );
    }
