-- What the laws of `proofs/Laws/PointFields` speak of.
use Rattle.std.specs.Prelude.{List, ℕ, ◌+◌, ◌<◌}
use Rattle.rules.specs.Fit.{Shape, Survey, point_count, point_at}
use Rattle.rules.specs.Level.{Point}
use Rattle.rules.specs.Bytes.{bytes_of, value_bytes}
use Rattle.rules.specs.PointFile.{PH, Kind, mark_of, size_of, last_byte, point_record, point_start}
use Rattle.rules.specs.Laws.Bytes.{Spans}

-- the record of point i, and those of the points before i
abbrev pub record_of : Kind → Survey → ℕ → List ℕ
record_of k s i = point_record k (point_at s i)

-- ---- where the fields stand: the file is its fields in their places, both ways

-- in the record of a point that begins at byte b
pub record Entry (file : List ℕ) (b : ℕ) (k : Kind) (p : Point) : Type 0 where
  pub mark : Spans file b (b + 2) (mark_of k)
  pub at_x : Spans file (b + 2) (b + 4) (bytes_of 2 p.x)
  pub at_y : Spans file (b + 4) (b + 6) (bytes_of 2 p.y)
  pub at_z : Spans file (b + 6) (b + 14) (value_bytes p.z)
  pub at_q : Spans file (b + 14) (b + size_of k) (last_byte k p.q)

pub record Fields (file : List ℕ) (k : Kind) (a : Shape) (s : Survey) : Type 0 where
  pub head : Spans file 0 2 PH
  pub across : Spans file 2 3 (bytes_of 1 a.m0)
  pub up : Spans file 3 4 (bytes_of 1 a.n0)
  pub levels : Spans file 4 5 (bytes_of 1 a.h)
  pub blank : Spans file 5 6 (bytes_of 1 0)
  pub points : Spans file 6 8 (bytes_of 2 (point_count s))
  pub point : (i : ℕ) → i < point_count s → Entry file (point_start k i) k (point_at s i)
