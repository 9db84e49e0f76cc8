-- One lattice row more is in the ring.
use Rattle.std.proofs.Common.{le_trans}
use Rattle.strips.specs.Reading.{spared_more}
use Rattle.strips.proofs.Rings.{ring_more, row_spared}
use Rattle.strips.proofs.ring.advance.Goals as goal

pub loop-r-preserved : goal.loop-r-preserved
loop-r-preserved c =
    let p = c.requires in
    let v = c.loop-r.invariant in
    let narrow = le_trans p.1 c.args.columns.now.strip.inside.width in (
      ring_more _ _ _ _ _ _ p.0 narrow c.loop-r-test.true c.row_sums.ensures v.0,
      spared_more v.1 (row_spared _ _ _ _ p.0 narrow v.0.whole c.row_sums.ensures),
    )
