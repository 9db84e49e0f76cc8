-- A number of one byte is the byte.
use Rattle.std.proofs.Common.{sym}
use Rattle.rules.specs.PointFile.{last_number}
use Rattle.point_records.specs.Records.{number_at_one}
use Rattle.point_records.proofs.Kind.confidence.Goals as goal

pub returns-in-Pt : goal.returns-in-Pt
unfolding last_number
returns-in-Pt c = rw c.in-Pt.is

pub returns-in-Pq : goal.returns-in-Pq
unfolding last_number
returns-in-Pq c = rw c.in-Pq.is (sym (number_at_one _ _))
