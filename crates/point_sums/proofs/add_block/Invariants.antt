-- The first sums and the second sums, joined, are the whole slice with the rows passed added.
use Rattle.std.proofs.Common.{◌≡◌, ◌+◌, ◌++◌, length}
use Rattle.rules.specs.Grid.{controls}
use Rattle.rules.specs.Level as rule
use Rattle.weights.specs.Block.{weight_at}
use Rattle.point_sums.specs.Sums.{rows}
use Rattle.point_sums.proofs.add_block.Given as goal

abbrev pub invariant-loop-l : goal.invariant-loop-l
invariant-loop-l l = record {
  count : length l.first ≡ controls l.cells.m l.cells.n;
  added : l.first ++ l.second ≡ rows (λ k i. rule.grown l.confidence (weight_at l.w k i) l.z l.s) (l.cells.m + 3) (controls l.cells.m l.cells.n) l.l l.fn.sums l.q;
}
