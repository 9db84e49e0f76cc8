-- What the laws of `proofs/Laws/PointFile` speak of.
use Rattle.std.specs.Prelude.{◌≡◌, List, ℕ, ◌≤◌, ◌<◌, length}
use Rattle.std.proofs.Math.Option.{none}
use Rattle.rules.specs.Fit.{Shape, columns, rows, Survey, point_count, AllOne}
use Rattle.rules.specs.Answers.{accepted, outcome}
use Rattle.rules.specs.PointFile.{Kind, pt, point_file}
use Rattle.rules.specs.PointFile.{file_shape, file_survey}
use Rattle.rules.specs.PointFile.{point_file_check}
use Rattle.rules.specs.PointFile.{over_lists, read_points_call}
use Rattle.rules.specs.Laws.Passed.{Surveyed, Placed}

-- what the writer asks: a shape in bounds, and lists of one length with positions inside, values in range and confidences
pub record Writable (a : Shape) (s : Survey) : Type 0 where
  pub surveyed : Surveyed a s
  pub placed : (i : ℕ) → i < point_count s → Placed 16 (columns a a.h) (rows a a.h) s i

-- A PT record has no place for q: it holds points whose q is 1.
abbrev pub Holds : Kind → Survey → Type 0
Holds k s = k ≡ pt → AllOne s

-- ---- written and read again

-- lists that are lent have a place for every point
pub record Roomy (s lent : Survey) : Type 0 where
  pub for_x : point_count s ≤ length lent.xs
  pub for_y : point_count s ≤ length lent.ys
  pub for_z : point_count s ≤ length lent.zs
  pub for_q : point_count s ≤ length lent.qs

-- the reader accepts the file as that of these points, and hands them over to slices that are long enough
pub record Reads (file : List ℕ) (a : Shape) (s : Survey) : Type 0 where
  pub accepts : point_file_check file ≡ none
  pub shape : file_shape file ≡ a
  pub points : file_survey file ≡ s
  pub reads : (lent : Survey) → Roomy s lent
      → read_points_call file lent ≡ outcome (accepted (record { shape = a; points = point_count s })) (over_lists s lent)

-- ---- the files that the reader accepts

-- it is the file of some points in bounds, in a kind that holds them
pub record OfPoints (file : List ℕ) : Type 0 where
  pub kind : Kind
  pub shape : Shape
  pub points : Survey
  pub writable : Writable shape points
  pub holds : Holds kind points
  pub written : point_file kind shape points ≡ file
