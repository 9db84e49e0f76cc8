-- Each kind has its mark and its size.
use Rattle.rules.specs.PointFile.{PT, PQ}
use Rattle.point_records.proofs.Kind.record.Goals as goal

pub returns-in-Pt : goal.returns-in-Pt
unfolding PT
returns-in-Pt c = rw c.in-Pt.is c.record.ensures

pub returns-in-Pq : goal.returns-in-Pq
unfolding PQ
returns-in-Pq c = rw c.in-Pq.is c.record-in-Pq.ensures
