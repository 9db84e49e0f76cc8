-- No height of the blocks before is out of range, and the sum is that of their depths.
use Rattle.std.proofs.Common.{◌≡◌, ◌*◌, min, drop, length}
use Rattle.std.proofs.Math.Option.{none}
use Rattle.std.specs.Iterator.Adapters.{enumerate_count, enumerate_source}
use Rattle.std.specs.Slice.Iter.{chunks_rest, chunks_size}
use Rattle.rules.specs.Storage.{depths, heights_check}
use Rattle.storage.proofs.checked_sum.Given as goal

abbrev pub invariant-loop-b : goal.invariant-loop-b
invariant-loop-b l = record {
  size : chunks_size (enumerate_source l.b-iterator) ≡ 64;
  rest : chunks_rest (enumerate_source l.b-iterator) ≡ drop (64 * enumerate_count l.b-iterator) l.heights;
  passed : heights_check (min (64 * enumerate_count l.b-iterator) (length l.heights)) l.heights ≡ none;
  sum : l.sum ≡ depths (min (64 * enumerate_count l.b-iterator) (length l.heights)) l.heights l.stage;
}
