-- What a file's header says, and the kinds of its records.
use Rattle.std.specs.Prelude.{◌≡◌, ℕ, ◌*◌, ◌≤◌, List, length}
use Rattle.rules.specs.Fit.{columns, rows}
use Rattle.rules.specs.PointFile as file
use Rattle.survey.specs.Survey.{shape_of}
use Rattle.point_records.specs.declared.Header.{Header}
use Rattle.point_records.specs.declared.Kind.{Kind}
use Rattle.point_records.specs.declared.Kind.TheVariants.{Pt, Pq}

-- the rules' header for the code's
abbrev pub header_of : Header → file.Header
header_of a = record { shape = shape_of a.shape; points = a.points }

-- what an accepted file's reader returns
abbrev pub header : List ℕ → file.Header
header f = record { shape = file.file_shape f; points = file.file_points f }

-- the kind of document 02 that each of the code's is
abbrev pub ruled : Kind → file.Kind
ruled Pt = file.pt
ruled Pq = file.pq

-- what a file's records are judged by: their kind, and the last positions along x and y
pub record Measured (f : List ℕ) (kind : Kind) (right top : ℕ) : Type 0 where
  pub alike : ruled kind ≡ file.kind_of f
  pub right_is : right ≡ 16 * columns (file.file_shape f) (file.file_shape f).h
  pub top_is : top ≡ 16 * rows (file.file_shape f) (file.file_shape f).h

-- a file that holds p records of this kind
pub record Held (f : List ℕ) (kind : Kind) (p : ℕ) : Type 0 where
  pub alike : ruled kind ≡ file.kind_of f
  pub complete : file.file_start f p ≤ length f
