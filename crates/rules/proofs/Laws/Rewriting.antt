-- Laws of the two kinds of point file: the PQ form of a PT file, which a rewriting gives, and the check of the first record, which sets the kind.
use Rattle.std.specs.Prelude.{◌≡◌, ◌⊎◌, Bool, true, false, ℕ, ◌+◌, ◌≤◌, ◌<◌, leb, drop}
use Rattle.std.proofs.Math.Path.{refl, ap, ap₂}
use Rattle.std.proofs.Common.{sym, ◌∙◌, leb-false, length-append}
use Rattle.std.proofs.Math.Logic.{⊎_elim}
use Rattle.std.proofs.Math.Option.{none}
use mathlib.Core.List.{List, ◌++◌}
use native.Mathlib.Omega.{arith}
use Rattle.std.proofs.lemmas.Bool.{lt-leb}
use Rattle.std.proofs.Math.ListN.{length, take}
use Rattle.algebra.specs.Table.{joined, over, length_tabulate, joined_same}
use Rattle.rules.specs.Fit.{Shape, Survey, point_count, point_at}
use Rattle.rules.specs.Answers.{require, ◌then◌, incomplete, mark, accepted, outcome}
use Rattle.rules.specs.Bytes.{bytes_of, value_bytes, same, record_check}
use Rattle.rules.specs.PointFile.{PH, PT, PQ, Kind, pt, pq, mark_of, size_of, point_record, point_head, point_file, point_start, point_file_length}
use Rattle.rules.specs.PointFile.{file_shape, file_points, kind_of, file_x, file_survey, point_file_check, write_points_check, write_points_call}
use Rattle.rules.specs.Laws.Bytes.{AreBytes}
use Rattle.rules.proofs.Laws.Bytes.{spans_take, spans_join, length_bytes_of, length_value_bytes}
use Rattle.rules.proofs.Laws.Checks.{then_pass, call_accepted}
use Rattle.rules.specs.Laws.PointFields.{record_of, Fields}
use Rattle.rules.proofs.Laws.PointFields.{length_point_file, head_spans, first_point}
use Rattle.rules.specs.Laws.PointFile.{Holds, Reads}
use Rattle.rules.proofs.Laws.PointFile.{read_holds, read_writable, read_fields, written_read, read_written, writer_accepts}
use Rattle.rules.specs.Laws.Rewriting.{pq_record, form_of, pq_form, first_record_check}

module _ {file : List ℕ} {a : Shape} {s : Survey} (x : Fields file pt a s) (hold : Holds pt s) where
  as_pq_record : (i : ℕ) → i < point_count s → record_of pq s i ≡ pq_record file i
  unfolding point_record pq_record PQ bytes_of
  as_pq_record i l =
      let e = x.point i l in
      let p = point_at s i in
      let middle : take 12 (drop (point_start pt i + 2) file) ≡ bytes_of 2 p.x ++ bytes_of 2 p.y ++ value_bytes p.z =
      spans_take 12 (simp (length-append, length_bytes_of, length_value_bytes) refl) (spans_join (spans_join e.at_x e.at_y) e.at_z) in
      rw (middle, hold refl i l)

  as_form_of : point_file pq a s ≡ take 8 file ++ joined (point_count s) (pq_record file)
  unfolding point_file point_head PH
  as_form_of =
      let long : length (point_head a (point_count s)) ≡ 8 = simp (length-append, length_bytes_of) in
      ap₂ ◌++◌ (sym (spans_take 8 long (head_spans x))) (joined_same (point_count s) _ _ as_pq_record)

-- with no points the two kinds of a file are one
none_alike : (k j : Kind) (a : Shape) (s : Survey) → point_count s ≡ 0 → point_file k a s ≡ point_file j a s
unfolding point_file joined
none_alike k j a s e = rw e

module _ (file : List ℕ) (e : point_file_check file ≡ none) (b : AreBytes file) where
  -- the PQ file of the points read from a file is its PQ form
  pub rewritten : point_file pq (file_shape file) (file_survey file) ≡ pq_form file
  unfolding pq_form form_of file_survey
  rewritten = go (kind_of file) refl
    where
      go : (k : Kind) → kind_of file ≡ k → point_file pq (file_shape file) (file_survey file) ≡ form_of k file
      go pq is = rw is at (written_read file e b)
      go pt is =
          let x : Fields file pt (file_shape file) (file_survey file) = rw is at (read_fields file e b) in
          as_form_of x (rw is at (read_holds file e b)) ∙ ap (λ p. take 8 file ++ joined p (pq_record file)) (length_tabulate (file_points file) (file_x file))

  -- so the writer, given the points read from a file and a slice that is long enough, writes that form
  pub rewriting : (output : List ℕ) → length (pq_form file) ≤ length output
      → write_points_call (file_shape file) (file_survey file) output ≡ outcome (accepted (length (pq_form file))) (over (pq_form file) output)
  unfolding write_points_call
  rewriting output l =
      let a = file_shape file in
      let s = file_survey file in
      let long : length (pq_form file) ≡ point_file_length pq (point_count s) = ap length (sym rewritten) ∙ length_point_file pq a s in
      let room : point_file_length pq (point_count s) ≤ length output = omega arith in
      let met : write_points_check a s output ≡ none = (writer_accepts a s output).1 (read_writable file e b, room) in
      rw (long, ← rewritten) (sym (call_accepted (write_points_check a s output) _ _ output met))

  -- which is the file itself where it has PQ records, or none
  pub rewritten_same : (kind_of file ≡ pq) ⊎ (file_points file ≡ 0) → point_file pq (file_shape file) (file_survey file) ≡ file
  unfolding file_survey
  rewritten_same =
      ⊎_elim
      (λ is. rw is at (written_read file e b))
      (λ none. none_alike pq (kind_of file) _ _ (length_tabulate (file_points file) (file_x file) ∙ none) ∙ written_read file e b)

  -- and its reader finds the same points
  pub pq_form_reads : Reads (pq_form file) (file_shape file) (file_survey file)
  pq_form_reads = rw (← rewritten) (read_written (file_shape file) (file_survey file) (read_writable file e b))

-- 15 bytes are asked after 14
fifteen : (n : ℕ) → (require (leb (8 + 15) n) (incomplete 8) then none) ≡ (require (leb (8 + 14) n) (incomplete 8) then require (leb (8 + 15) n) (incomplete 8))
unfolding require ◌then◌
fifteen n = go (leb (8 + 14) n) refl
  where
    go : (b : Bool) → leb (8 + 14) n ≡ b → (require (leb (8 + 15) n) (incomplete 8) then none) ≡ (require b (incomplete 8) then require (leb (8 + 15) n) (incomplete 8))
    go true e = then_pass _
    go false e = rw (lt-leb (8 + 15) n (omega (arith, leb-false (8 + 14) n e)))

-- is what the check of record 0 begins with, as that of every record does
pub first_record : (file : List ℕ) → record_check (mark_of (kind_of file)) file (point_start (kind_of file) 0) (size_of (kind_of file)) ≡ first_record_check file
unfolding record_check first_record_check kind_of require ◌then◌
first_record file = rw (← first_point (kind_of file)) (go (same found PQ) refl)
  where
    found : List ℕ
    found = take 2 (drop 8 file)

    go : (b : Bool) → same found PQ ≡ b → record_check (mark_of (kind_of file)) file 8 (size_of (kind_of file)) ≡ first_record_check file
    go true e = rw (e, e) (fifteen (length file))
    go false e = rw e (ap (λ c. require (leb (8 + 14) (length file)) (incomplete 8) then c) (sym (then_pass (require (same found PT) (mark 8)))))
