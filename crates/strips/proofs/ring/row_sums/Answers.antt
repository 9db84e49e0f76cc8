-- A store is one sum more.
use Rattle.std.proofs.Common.{arith}
use Rattle.machine.specs.Held.{returned}
use Rattle.strips.proofs.Rings.{sums_none, sums_more}
use Rattle.strips.proofs.ring.row_sums.Goals as goal

pub loop-i-init : goal.loop-i-init
loop-i-init c = (c.told-ring, sums_none c.args.columns.now.strip _ _ _ _)

pub loop-i-preserved : goal.loop-i-preserved
loop-i-preserved c =
    let v = c.loop-i.invariant in
    (v.0, sums_more c.args.columns.now.strip _ _ _ _ _ (c.loop-i.auto.i) (omega arith) v.1 (returned c.row_sum.type_inv c.row_sum.ensures))
