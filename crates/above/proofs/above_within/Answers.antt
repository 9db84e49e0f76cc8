-- A strip with a node above the stage has told the answer, and behind the last strip there is none.
use Rattle.std.proofs.Common.{◌+◌, arith}
use Rattle.machine.specs.Tests.{plain}
use Rattle.above.proofs.Within.{no_rows, strip_high, strip_low, all_below}
use Rattle.above.proofs.above_within.Goals as goal

pub returns-then-nodes-eq0 : goal.returns-then-nodes-eq0
returns-then-nodes-eq0 c = no_rows c.args.grid _ c.args.nodes _ c.if-nodes-eq0.true

pub returns-then-strip_above : goal.returns-then-strip_above
returns-then-strip_above c =
    strip_high c.args.grid _ c.args.nodes _ c.loop-column.column c.from_column-strip.result c.from_column-strip.ensures c.loop-column-test.true
    (plain c.args.stage c.ranges.stage.sfits) (c.strip_above.ensures.yes c.if-strip_above.true)

pub loop-column-preserved : goal.loop-column-preserved
loop-column-preserved c =
    strip_low c.args.grid _ c.args.nodes _ c.loop-column.column c.from_column-strip.result c.from_column-strip.ensures c.loop-column-test.true c.loop-column.invariant
    (c.strip_above.ensures.no c.if-strip_above.false)

pub returns-else-nodes-eq0 : goal.returns-else-nodes-eq0
returns-else-nodes-eq0 c =
    all_below c.args.grid _ c.args.nodes c.loop-column.column (plain c.args.stage c.ranges.stage.sfits) c.loop-column-test.false c.loop-column.invariant

pub returns-else-strip_above : goal.returns-else-strip_above
returns-else-strip_above c =
    let low =
    strip_low c.args.grid c.args.lattice.now c.args.nodes _ c.loop-column.column c.from_column-strip.result c.from_column-strip.ensures c.loop-column-test.true
    c.loop-column.invariant (c.strip_above.ensures.no c.if-strip_above.false) in
    all_below c.args.grid _ c.args.nodes (c.loop-column.column + 64) (plain c.args.stage c.ranges.stage.sfits) (omega arith) low
