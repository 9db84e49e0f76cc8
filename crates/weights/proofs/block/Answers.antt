-- The table of sixteen products, written out.
use Rattle.std.proofs.Common.{refl}
use Rattle.algebra.specs.Table.{tabulate}
use Rattle.weights.specs.Block.{block_of}
use Rattle.weights.proofs.block.Goals as goal

pub returns : goal.returns
unfolding block_of tabulate
returns c = refl
