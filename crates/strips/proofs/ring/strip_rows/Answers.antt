-- Each row is one more.
use Rattle.strips.specs.Reading.{next_more}
use Rattle.strips.specs.Stripes.{row_more}
use Rattle.strips.proofs.Row.{row_room}
use Rattle.strips.proofs.ring.strip_rows.Goals as goal

pub loop-j-preserved : goal.loop-j-preserved
loop-j-preserved c =
    let v = c.loop-j.invariant in
    let s = c.args.columns.now.strip in
    let d = c.strip_row-next.ensures in
    let room = row_room s c.requires _ c.loop-j-test.true in
    (next_more s _ d.next_is, d.ringed, row_more _ _ _ _ _ _ _ s.inside.narrow (rw v.2.same_length room) d.filled v.2)
