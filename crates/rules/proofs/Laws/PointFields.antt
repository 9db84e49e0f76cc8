-- Laws of the bytes of a point file, for both kinds together: its length, and the file as its fields in their places.
use Rattle.std.specs.Prelude.{◌≡◌, List, ◌++◌, ℕ, suc, ◌+◌, ◌*◌, ◌≤◌, ◌<◌}
use Rattle.std.proofs.Math.Path.{refl}
use Rattle.std.proofs.Common.{sym, arith, length-append}
use Rattle.std.proofs.Math.ListN.{length}
use Rattle.algebra.specs.Table.{joined, length_joined}
use Rattle.rules.specs.Fit.{Shape, Survey, point_count, point_at}
use Rattle.rules.specs.Level.{Point}
use Rattle.rules.specs.Bytes.{bytes_of, value_bytes}
use Rattle.rules.specs.PointFile.{PH, PT, PQ, Kind, pt, pq, mark_of, size_of, last_byte, point_record, point_head, point_file, point_start, point_file_length}
use Rattle.rules.specs.Laws.Bytes.{Spans}
use Rattle.rules.proofs.Laws.Bytes.{spans_join, spans_split, spans_moved, spans_joined, spans_part, length_bytes_of, length_value_bytes}
use Rattle.rules.specs.Laws.PointFields.{record_of, Entry, Fields}

-- ---- the length

pub length_mark : (k : Kind) → length (mark_of k) ≡ 2
unfolding PT PQ
length_mark pt = refl
length_mark pq = refl

pub length_last : (k : Kind) (q : ℕ) → 14 + length (last_byte k q) ≡ size_of k
length_last pt q = refl
length_last pq q = omega (arith, length_bytes_of 1 q)

pub length_point_record : (k : Kind) (p : Point) → length (point_record k p) ≡ size_of k
unfolding point_record
length_point_record k p = simp (length-append, length_bytes_of, length_value_bytes, length_mark) (omega (arith, length_last k p.q))

pub length_records : (k : Kind) (s : Survey) (i : ℕ) → length (joined i (record_of k s)) ≡ i * size_of k
length_records k s = length_joined (size_of k) (record_of k s) (λ i. length_point_record k (point_at s i))

pub length_point_file : (k : Kind) (a : Shape) (s : Survey) → length (point_file k a s) ≡ point_file_length k (point_count s)
unfolding point_file point_head point_file_length point_start PH
length_point_file k a s = simp (length-append, length_bytes_of, length_records) (omega arith)

next_point : (k : Kind) (i : ℕ) → point_start k i + size_of k ≡ point_start k (suc i)
unfolding point_start
next_point pt i = omega arith
next_point pq i = omega arith

-- a record ends where the ones after it begin, or before
pub start_less : (k : Kind) (i p : ℕ) → i < p → point_start k i + size_of k ≤ point_start k p
unfolding point_start
start_less pt i p l = omega arith
start_less pq i p l = omega arith

-- so no record of a file starts past 983,033
pub start_most : (k : Kind) (i : ℕ) → i ≤ 65_535 → point_start k i ≤ 983_033
unfolding point_start
start_most pt i l = omega arith
start_most pq i l = omega arith

pub first_point : (k : Kind) → 8 ≡ point_start k 0
unfolding point_start
first_point k = omega arith

entry : {file : List ℕ} {b : ℕ} {k : Kind} {p : Point} → Spans file b (b + size_of k) (point_record k p) → Entry file b k p
unfolding point_record
entry {file} {b} {k} {p} spans =
    let to-x = mark_of k ++ bytes_of 2 p.x in
    let to-y = to-x ++ bytes_of 2 p.y in
    let q-part = spans_split (to-y ++ value_bytes p.z) (last_byte k p.q) (b + 14) spans (omega (arith, length_last k p.q)) in
    let z-part = spans_split to-y (value_bytes p.z) (b + 6) q-part.0 (omega (arith, length_value_bytes p.z)) in
    let y-part = spans_split to-x (bytes_of 2 p.y) (b + 4) z-part.0 (omega (arith, length_bytes_of 2 p.y)) in
    let x-part = spans_split (mark_of k) (bytes_of 2 p.x) (b + 2) y-part.0 (omega (arith, length_bytes_of 2 p.x)) in
    record { mark = x-part.0; at_x = x-part.1; at_y = y-part.1; at_z = z-part.1; at_q = q-part.1 }

pub entry_spans : {file : List ℕ} {b : ℕ} {k : Kind} {p : Point} → Entry file b k p → Spans file b (b + size_of k) (point_record k p)
unfolding point_record
entry_spans e = spans_join (spans_join (spans_join (spans_join e.mark e.at_x) e.at_y) e.at_z) e.at_q

-- the head, up to the first record
pub head_spans : {file : List ℕ} {k : Kind} {a : Shape} {s : Survey} → Fields file k a s → Spans file 0 8 (point_head a (point_count s))
unfolding point_head
head_spans x = spans_join (spans_join (spans_join (spans_join (spans_join x.head x.across) x.up) x.levels) x.blank) x.points

pub file_fields : {file : List ℕ} {k : Kind} {a : Shape} {s : Survey} → Spans file 0 (point_file_length k (point_count s)) (point_file k a s) → Fields file k a s
unfolding point_file point_head point_file_length
file_fields {file} {k} {a} {s} x =
    let h1 = PH ++ bytes_of 1 a.m0 in
    let h2 = h1 ++ bytes_of 1 a.n0 in
    let h3 = h2 ++ bytes_of 1 a.h in
    let h4 = h3 ++ bytes_of 1 0 in
    let all = joined (point_count s) (record_of k s) in
    let body = spans_split (h4 ++ bytes_of 2 (point_count s)) all 8 x (unfold point_start in (omega (arith, length_records k s (point_count s)))) in
    let points = spans_split h4 (bytes_of 2 (point_count s)) 6 body.0 (omega (arith, length_bytes_of 2 (point_count s))) in
    let blank = spans_split h3 (bytes_of 1 0) 5 points.0 (omega (arith, length_bytes_of 1 0)) in
    let levels = spans_split h2 (bytes_of 1 a.h) 4 blank.0 (omega (arith, length_bytes_of 1 a.h)) in
    let up = spans_split h1 (bytes_of 1 a.n0) 3 levels.0 (omega (arith, length_bytes_of 1 a.n0)) in
    let across = spans_split PH (bytes_of 1 a.m0) 2 up.0 (omega (arith, length_bytes_of 1 a.m0)) in
    let next : (i : ℕ) → point_start k i + length (record_of k s i) ≡ point_start k (suc i) =
    λ i. omega (arith, next_point k i, length_point_record k (point_at s i)) in
    record {
      head = across.0;
      across = across.1;
      up = up.1;
      levels = levels.1;
      blank = blank.1;
      points = points.1;
      point = λ i l. entry (spans_moved refl (sym (next_point k i)) (spans_part (point_start k) (record_of k s) (point_count s) next (spans_moved (first_point k) refl body.1) i l));
    }

pub file_spans : {file : List ℕ} {k : Kind} {a : Shape} {s : Survey} → Fields file k a s → Spans file 0 (point_file_length k (point_count s)) (point_file k a s)
unfolding point_file point_file_length
file_spans {file} {k} {a} {s} x =
    let records = spans_joined (point_start k) (record_of k s) (point_count s) (λ i l. spans_moved refl (next_point k i) (entry_spans (x.point i l))) in
    spans_join (head_spans x) (spans_moved (sym (first_point k)) refl records)
