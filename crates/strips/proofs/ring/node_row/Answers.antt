-- A store is one node more.
use Rattle.std.proofs.Common.{sym, pos}
use Rattle.machine.specs.Held.{returned}
use Rattle.algebra.specs.Table.{tabulate, over_none, fill_store}
use Rattle.strips.proofs.ring.node_row.Goals as goal

pub loop-i-init : goal.loop-i-init
unfolding tabulate
loop-i-init c = sym (over_none _)

pub loop-i-preserved : goal.loop-i-preserved
loop-i-preserved c = fill_store _ _ _ (pos 0) c.loop-i-test.true c.loop-i.invariant (returned c.node.type_inv c.node.ensures)
