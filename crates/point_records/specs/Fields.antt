-- The checks of a point record's fields, by the byte where it starts.
use Rattle.std.specs.Prelude.{◌≡◌, true, false, List, ℕ, ◌+◌, ◌≤◌, ◌<◌, leb}
use Rattle.std.proofs.Math.Option.{none, some}
use Rattle.std.proofs.Common.{arith}
use borrow.Author.Tests.{le-leb, lt-leb}
use Rattle.rules.specs.Grid.{in_range, inside, confident}
use Rattle.rules.specs.Answers.{Check, require, ◌then◌, field}
use Rattle.rules.specs.Bytes.{number_at, value_at, record_check}
use Rattle.rules.proofs.Laws.Checks.{byte_sure, zero_unsure}
use Rattle.rules.specs.PointFile.{Kind, mark_of, size_of, point_start, file_shape, file_x, file_y, file_z, last_number, file_q, point_record_check}
use Rattle.point_records.specs.declared.Kind as code
use Rattle.point_records.specs.Read.{ruled, Measured}

-- the fields' checks in a record that starts at s
unfoldable pub fields : List ℕ → Kind → ℕ → ℕ → ℕ → Check
fields file k right top s =
    require (leb (number_at 2 file (s + 2)) right) (field (s + 2))
    then require (leb (number_at 2 file (s + 4)) top) (field (s + 4))
    then require (in_range (value_at file (s + 6))) (field (s + 6))
    then require (confident (last_number k file (s + 14))) (field (s + 14))

-- record i is checked by where it starts
pub checks : (file : List ℕ) (kind : code.Kind) (right top i s : ℕ) → Measured file kind right top → s ≡ point_start (ruled kind) i
    → point_record_check (file_shape file) file i ≡ (record_check (mark_of (ruled kind)) file s (size_of (ruled kind)) then fields file (ruled kind) right top s)
unfolding fields point_record_check file_x file_y file_z file_q inside
checks file kind right top i s m e = rw (e, m.right_is, m.top_is, m.alike)

-- the test that decides each refusal, those before it passed
module _ (file : List ℕ) (k : Kind) (right top s : ℕ) where
  pub past_right : right < number_at 2 file (s + 2) → fields file k right top s ≡ some (field (s + 2))
  unfolding fields require ◌then◌
  past_right x = rw (lt-leb _ _ x)

  module _ (x : number_at 2 file (s + 2) ≤ right) where
    pub past_top : top < number_at 2 file (s + 4) → fields file k right top s ≡ some (field (s + 4))
    unfolding fields require ◌then◌
    past_top y = rw (le-leb _ _ x, lt-leb _ _ y)

    module _ (y : number_at 2 file (s + 4) ≤ top) where
      pub out : in_range (value_at file (s + 6)) ≡ false → fields file k right top s ≡ some (field (s + 6))
      unfolding fields require ◌then◌
      out z = rw (le-leb _ _ x, le-leb _ _ y, z)

      module _ (z : in_range (value_at file (s + 6)) ≡ true) {q : ℕ} (is : q ≡ last_number k file (s + 14)) where
        pub unsure : q ≡ 0 → fields file k right top s ≡ some (field (s + 14))
        unfolding fields require ◌then◌
        unsure e = rw (le-leb _ _ x, le-leb _ _ y, z, ← is, zero_unsure q e)

        pub fine : q < 256 → (q ≡ 0 → ⊥) → fields file k right top s ≡ none
        unfolding fields require ◌then◌
        fine l e = rw (le-leb _ _ x, le-leb _ _ y, z, ← is, byte_sure q (omega arith) l)
