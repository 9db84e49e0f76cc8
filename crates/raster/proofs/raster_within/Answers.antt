-- With no row there is nothing to write, and behind the last column all nodes are written.
use Rattle.std.proofs.Common.{◌≡◌, refl, ◌+◌, arith}
use Rattle.std.specs.Prelude.{min}
use Rattle.raster.proofs.Within.{strip_done, all_nodes, no_nodes}
use Rattle.raster.proofs.raster_within.Goals as goal

pub returns-then-nodes-eq0 : goal.returns-then-nodes-eq0
returns-then-nodes-eq0 c = no_nodes _ _ _ _ c.if-nodes-eq0.true

pub returns-else-nodes-eq0 : goal.returns-else-nodes-eq0
returns-else-nodes-eq0 c =
    let last : min c.loop-column.column c.args.nodes.columns ≡ c.args.nodes.columns = omega arith in
    all_nodes c.args.grid c.args.nodes _ c.requires refl (rw last at c.loop-column.invariant)

pub returns-else-nodes-eq0-2 : goal.returns-else-nodes-eq0-2
returns-else-nodes-eq0-2 c =
    let last : min (c.loop-column.column + 64) c.args.nodes.columns ≡ c.args.nodes.columns = omega arith in
    all_nodes c.args.grid c.args.nodes _ c.requires refl
    (rw last at (strip_done c.args.grid c.args.nodes c.args.lattice.now c.loop-column.column c.from_column-strip.ensures c.loop-column-test.true c.loop-column.invariant c.whole_strip.ensures))
