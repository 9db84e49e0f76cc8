use Rattle.std.proofs.Common.{get_or, pos, arith}
use Rattle.rules.proofs.Laws.Checks.{none_out_start}
use Rattle.range.specs.Scan.{scan_more, tested}
use Rattle.range.proofs.all_in_range.Goals as goal

pub loop-z-init : goal.loop-z-init
loop-z-init c = λ r. none_out_start _ (λ i. r)

pub loop-z-preserved : goal.loop-z-preserved
loop-z-preserved c =
    let l = c.loop-z in
    let value = get_or c.args.block.now l.z-index (pos 0) in
    scan_more l.z-index l.bits _ _ l.invariant (tested value _ (omega arith) c.range_bits-bits.ensures)
