-- The loop's invariant: the first i nodes are over the slice.
use mathlib.Core.Path.{◌≡◌}
use Rattle.algebra.specs.Table.{tabulate, over}
use Rattle.strips.specs.Strips.{node_at}
use Rattle.strips.proofs.ring.node_row.Given as goal

abbrev pub invariant-loop-i : goal.invariant-loop-i
invariant-loop-i l = l.nodes ≡ over (tabulate l.i (node_at l.e l.b l.ring l.cell)) l.initial.nodes
