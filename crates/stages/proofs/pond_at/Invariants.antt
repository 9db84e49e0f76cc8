-- Both sums are those of the heights before what is left, which is as many as the whole, less some blocks.
use Rattle.std.proofs.Common.{◌≡◌, ◌-◌, ◌%◌, ◌≤◌, drop, length}
use Rattle.std.specs.Slice.Iter.{chunks_exact_rest, chunks_exact_size}
use Rattle.rules.specs.Storage.{depths}
use Rattle.rules.specs.Laws.Stage.{wets}
use Rattle.stages.proofs.pond_at.Given as goal

abbrev pub invariant-loop-block : goal.invariant-loop-block
invariant-loop-block l = record {
  size : chunks_exact_size l.block-iterator ≡ 64;
  few : length (chunks_exact_rest l.block-iterator) ≤ length l.heights;
  whole_blocks : length (chunks_exact_rest l.block-iterator) % 64 ≡ length l.heights % 64;
  rest : chunks_exact_rest l.block-iterator ≡ drop (length l.heights - length (chunks_exact_rest l.block-iterator)) l.heights;
  sum : l.sum ≡ depths (length l.heights - length (chunks_exact_rest l.block-iterator)) l.heights l.stage;
  wet : l.wet ≡ wets (length l.heights - length (chunks_exact_rest l.block-iterator)) l.heights l.stage;
}
