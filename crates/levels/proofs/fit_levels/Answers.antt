-- The levels are refused where one of them is.
use Rattle.std.proofs.Common.{ap, arith}
use Rattle.std.proofs.lemmas.Result.{err_from_is_err_and}
use Rattle.algebra.specs.Table.{free_again}
use Rattle.answers.specs.Cause.{check}
use Rattle.levels.proofs.Stepping.{beginning, levelable, passing, levels_refused, levels_done}
use Rattle.levels.proofs.fit_levels.Goals as goal

pub loop-k-init : goal.loop-k-init
loop-k-init c = beginning c.requires

pub fit_level-requires : goal.fit_level-requires
fit_level-requires c =
    let i = c.loop-k.invariant in
    ((_, levelable c.requires i, i.before), c.loop-k-test.true)

pub returns-in_err-fit_level : goal.returns-in_err-fit_level
returns-in_err-fit_level c =
    let p = c.requires in
    let i = c.loop-k.invariant in
    let e = c.fit_level.ensures in
    let r = err_from_is_err_and c.from_residual.result c.from_residual.ensures.1 in
    record {
      levelled = rw (r.1, r.2) (levels_refused p i (e.whole_level _ (levelable p i) i.before) c.loop-k-test.true (ap check c.in_err-fit_level.was));
      free = (free_again (omega (arith, p)) i.whole_free e.free.0, free_again (omega (arith, p)) i.floats_free e.free.1);
    }

pub loop-k-preserved : goal.loop-k-preserved
loop-k-preserved c =
    let p = c.requires in
    let i = c.loop-k.invariant in
    let e = c.fit_level.ensures in
    passing p i (e.whole_level _ (levelable p i) i.before) c.loop-k-test.true (ap check c.in_ok-fit_level.was) e.free.0 e.free.1

pub returns-in_ok-fit_level : goal.returns-in_ok-fit_level
returns-in_ok-fit_level c =
    let p = c.requires in
    let i = c.loop-k.invariant in
    let e = c.fit_level.ensures in
    let last = passing p i (e.whole_level _ (levelable p i) i.before) c.loop-k-test.true (ap check c.in_ok-fit_level.was) e.free.0 e.free.1 in
    record { levelled = levels_done p last (omega arith); free = (last.whole_free, last.floats_free) }
