-- The start is its definition.
use Rattle.std.proofs.Common.{◌+◌, ◌*◌, ap, arith}
use Rattle.rules.specs.PointFile.{point_start}
use Rattle.rules.proofs.Laws.PointFields.{start_most}
use Rattle.point_records.specs.Read.{ruled}
use Rattle.point_records.proofs.Kind.start.Goals as goal

pub overflow_mul-result : goal.overflow_mul-result
unfolding point_start
overflow_mul-result c = rw c.size.ensures (omega arith)

pub overflow_add-result : goal.overflow_add-result
unfolding point_start
overflow_add-result c = rw c.size.ensures (omega arith)

pub returns : goal.returns
unfolding point_start
returns c = record {
  value = ap (λ k. 8 + k * c.args.i) c.size.ensures;
  small = λ l. rw c.size.ensures (start_most (ruled c.args.self) c.args.i (omega arith));
}
