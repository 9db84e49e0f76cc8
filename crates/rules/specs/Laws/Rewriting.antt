-- What the laws of `proofs/Laws/Rewriting` speak of.
use Rattle.std.specs.Prelude.{◌||◌, not, ℕ, ◌+◌, leb, drop}
use mathlib.Core.List.{List, [], ◌∷◌, ◌++◌}
use Rattle.std.proofs.Math.ListN.{length, take}
use Rattle.algebra.specs.Table.{joined}
use Rattle.rules.specs.Answers.{Check, require, ◌then◌, incomplete, mark}
use Rattle.rules.specs.Bytes.{same}
use Rattle.rules.specs.PointFile.{PT, PQ, Kind, pt, pq, point_start}
use Rattle.rules.specs.PointFile.{file_points, kind_of}

-- ---- "rewriting a PT file gives its PQ form"

-- Record i of a PT file as a PQ record: the other mark, x, y and z byte for byte, and 1 for q, since "a PT point reads as q = 1".
unfoldable pub pq_record : List ℕ → ℕ → List ℕ
pq_record file i = PQ ++ take 12 (drop (point_start pt i + 2) file) ++ (1 ∷ [])

unfoldable pub form_of : Kind → List ℕ → List ℕ
form_of pq file = file
form_of pt file = take 8 file ++ joined (file_points file) (pq_record file)

-- the PQ form of a file: its own bytes if it has PQ records, and else its head with each record as a PQ record
unfoldable pub pq_form : List ℕ → List ℕ
pq_form file = form_of (kind_of file) file

-- ---- "the first sets the kind"

-- The first record, in document 02's own words: "with under 14 bytes left is 9 before its mark is read, a PQ with 14 is 9 after it".
unfoldable pub first_record_check : List ℕ → Check
first_record_check file =
    let found = take 2 (drop 8 file) in
    require (leb (8 + 14) (length file)) (incomplete 8)
    then require (same found PQ || same found PT) (mark 8)
    then require (not (same found PQ) || leb (8 + 15) (length file)) (incomplete 8)
