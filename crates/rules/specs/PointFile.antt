-- The point file of document 01, with the two kinds of document 02's job 8: the file of a point list, the reader and the writer. Definitions only.
use Rattle.std.specs.Prelude.{ℕ, ◌+◌, ◌*◌, ◌&&◌, cond, List, [], ◌∷◌, ◌++◌, leb, eqb, ℤ, length, take, drop}
use Rattle.algebra.specs.Table.{tabulate, joined, over}
use Rattle.rules.specs.Grid.{in_range, confident, within, inside}
use Rattle.rules.specs.Level.{Point}
use Rattle.rules.specs.Fit.{Shape, columns, rows, Survey, survey, point_count, point_at}
use Rattle.rules.specs.Bytes.{bytes_of, value_bytes, number_at, value_at, same, record_check}
use Rattle.rules.specs.Answers.{short, field, trailing, Check, require, ◌then◌, first_of, Outcome, call}
use Rattle.rules.specs.Calls.{survey_check, points_check}

-- "PH" (0x50 0x48), "PT" (0x50 0x54), "PQ" (0x50 0x51)
unfoldable pub PH : List ℕ
PH = 0x50 ∷ 0x48 ∷ []

unfoldable pub PT : List ℕ
PT = 0x50 ∷ 0x54 ∷ []

unfoldable pub PQ : List ℕ
PQ = 0x50 ∷ 0x51 ∷ []

-- ---- the kinds: "A point file has only PT or only PQ records"

pub data Kind : Type 0 where
  pt : Kind
  pq : Kind

abbrev pub mark_of : Kind → List ℕ
mark_of pt = PT
mark_of pq = PQ

-- the bytes of a record: "15 bytes in all" of a PQ record
abbrev pub size_of : Kind → ℕ
size_of pt = 14
size_of pq = 15

-- "with q as a last byte": what follows z
abbrev pub last_byte : Kind → ℕ → List ℕ
last_byte pt q = []
last_byte pq q = bytes_of 1 q

-- ---- the file

-- ""PT" .., x u16, y u16, z", and in a PQ record q
unfoldable pub point_record : Kind → Point → List ℕ
point_record k p = mark_of k ++ bytes_of 2 p.x ++ bytes_of 2 p.y ++ value_bytes p.z ++ last_byte k p.q

-- ""PH" .., m0, n0, h one byte each, a zero byte, p as u16"
unfoldable pub point_head : Shape → ℕ → List ℕ
point_head a p = PH ++ bytes_of 1 a.m0 ++ bytes_of 1 a.n0 ++ bytes_of 1 a.h ++ bytes_of 1 0 ++ bytes_of 2 p

-- "p times .."
unfoldable pub point_file : Kind → Shape → Survey → List ℕ
point_file k a s = point_head a (point_count s) ++ joined (point_count s) (λ i. point_record k (point_at s i))

-- ---- where the records stand

unfoldable pub point_start : Kind → ℕ → ℕ
point_start k i = 8 + size_of k * i

unfoldable pub point_file_length : Kind → ℕ → ℕ
point_file_length k p = point_start k p

-- ---- the reader: "Readers go record by record, 9, 10, fields in order, then 12, then 4"

unfoldable pub file_shape : List ℕ → Shape
file_shape file = record { m0 = number_at 1 file 2; n0 = number_at 1 file 3; h = number_at 1 file 4 }

unfoldable pub file_points : List ℕ → ℕ
file_points file = number_at 2 file 6

-- "the first sets the kind": PQ where the first record has that mark. One that has neither mark is refused as a PT record.
unfoldable pub kind_of : List ℕ → Kind
kind_of file = cond (same (take 2 (drop 8 file)) PQ) pq pt

-- where record i begins
abbrev pub file_start : List ℕ → ℕ → ℕ
file_start file i = point_start (kind_of file) i

unfoldable pub file_x : List ℕ → ℕ → ℕ
file_x file i = number_at 2 file (file_start file i + 2)

unfoldable pub file_y : List ℕ → ℕ → ℕ
file_y file i = number_at 2 file (file_start file i + 4)

unfoldable pub file_z : List ℕ → ℕ → ℤ
file_z file i = value_at file (file_start file i + 6)

-- "a PT point reads as q = 1"
unfoldable pub last_number : Kind → List ℕ → ℕ → ℕ
last_number pt file b = 1
last_number pq file b = number_at 1 file b

unfoldable pub file_q : List ℕ → ℕ → ℕ
file_q file i = last_number (kind_of file) file (file_start file i + 14)

-- the points that the file holds
unfoldable pub file_survey : List ℕ → Survey
file_survey file =
    let p = file_points file in
    survey (tabulate p (file_x file)) (tabulate p (file_y file)) (tabulate p (file_z file)) (tabulate p (file_q file))

unfoldable pub point_head_check : List ℕ → Check
point_head_check file =
    let a = file_shape file in
    record_check PH file 0 8
    then require (within 1 16 a.m0) (field 2)
    then require (within 1 16 a.n0) (field 3)
    then require (leb a.h 5) (field 4)
    then require (eqb (number_at 1 file 5) 0) (field 5)

-- "later records are measured by the kind", and so is the first: under 14 bytes it is 9 in either kind, and "a PQ with 14 is 9" too
unfoldable pub point_record_check : Shape → List ℕ → ℕ → Check
point_record_check a file i =
    let k = kind_of file in
    let s = point_start k i in
    record_check (mark_of k) file s (size_of k)
    then require (inside 16 (columns a a.h) (file_x file i)) (field (s + 2))
    then require (inside 16 (rows a a.h) (file_y file i)) (field (s + 4))
    then require (in_range (file_z file i)) (field (s + 6))
    then require (confident (file_q file i)) (field (s + 14))

unfoldable pub point_file_check : List ℕ → Check
point_file_check file =
    let p = file_points file in
    point_head_check file
    then first_of p (point_record_check (file_shape file) file)
    then require (eqb (length file) (file_start file p)) (trailing (file_start file p))

-- "header fields": m0, n0, h and p
pub record Header : Type 0 where
  pub shape : Shape
  pub points : ℕ

-- a reader's output lists may differ in length; each needs a place for every point
unfoldable pub read_points_check : List ℕ → Survey → Check
read_points_check file lent =
    let p = file_points file in
    point_file_check file
    then require (leb p (length lent.xs) && leb p (length lent.ys) && leb p (length lent.zs) && leb p (length lent.qs)) short

-- a survey over the first places of the lists lent
unfoldable pub over_lists : Survey → Survey → Survey
over_lists s lent = survey (over s.xs lent.xs) (over s.ys lent.ys) (over s.zs lent.zs) (over s.qs lent.qs)

unfoldable pub read_points_call : List ℕ → Survey → Outcome Header Survey
read_points_call file lent =
    call (read_points_check file lent) (record { shape = file_shape file; points = file_points file }) (over_lists (file_survey file) lent) lent

-- ---- the writer: "The writer writes PQ"

unfoldable pub write_points_check : Shape → Survey → List ℕ → Check
write_points_check a s output =
    survey_check a s
    then require (leb (point_file_length pq (point_count s)) (length output)) short
    then points_check 16 (columns a a.h) (rows a a.h) s

-- it returns the bytes written
unfoldable pub write_points_call : Shape → Survey → List ℕ → Outcome ℕ (List ℕ)
write_points_call a s output =
    call (write_points_check a s output) (point_file_length pq (point_count s)) (over (point_file pq a s) output) output
