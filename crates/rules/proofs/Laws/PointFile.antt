-- Laws of the point file, for both kinds together: that a file written is read again as the same points, and that an accepted file is the file of the
-- points read from it, in its own kind.
use Rattle.std.specs.Prelude.{◌≡◌, ◌↔◌, ◌&&◌, cond, List, ℕ, zero, suc, ◌+◌, ◌*◌, ◌^◌, ◌≤◌, ◌<◌, leb, pos, length, get_or}
use Rattle.std.proofs.Math.Path.{refl, sym}
use Rattle.std.proofs.Common.{ap, ◌∙◌, arith, le→leb, eqb→eq}
use Rattle.std.proofs.Math.Option.{none}
use Rattle.std.proofs.Math.Dec.{leb→le, eqb_refl}
use Rattle.std.specs.Float.Ieee.Fits.{and_i}
use Rattle.std.proofs.Math.Seq.{take-length}
use Rattle.algebra.specs.Table.{tabulate, length_tabulate, get_d_tabulate, tabulate_same, tabulate_take}
use Rattle.rules.specs.Grid.{confident, inside, cells_at}
use Rattle.rules.specs.Fit.{Shape, columns, rows, Survey, point_count, point_at}
use Rattle.rules.specs.Answers.{call}
use Rattle.rules.specs.Bytes.{number_at, same}
use Rattle.rules.specs.PointFile.{PH, PT, PQ, Kind, pt, pq, mark_of, size_of, last_byte, point_file, point_start, point_file_length}
use Rattle.rules.specs.PointFile.{file_shape, file_points, kind_of, file_x, file_y, file_z, last_number, file_q, file_survey}
use Rattle.rules.specs.PointFile.{point_head_check, point_record_check, point_file_check}
use Rattle.rules.specs.PointFile.{read_points_check, read_points_call, write_points_check}
use Rattle.rules.proofs.Laws.Checks.{required, require_met, within_bounds, bounds_within, then_first, then_rest, then_none, first_of_none, first_of_all, in_range_size, size_in_range}
use Rattle.rules.proofs.Laws.Passed.{cells_at_most, survey_passed, surveyed_passes, points_passed, placed_pass}
use Rattle.rules.specs.Laws.Bytes.{AreBytes, Spans}
use Rattle.rules.proofs.Laws.Bytes.{spans_whole, spans_file, spans_moved, spans_take, spans_fits}
use Rattle.rules.proofs.Laws.Bytes.{number_read, number_spans, value_read, value_spans, number_below, record_fits, record_mark, record_met}
use Rattle.rules.specs.Laws.PointFields.{Entry, Fields}
use Rattle.rules.proofs.Laws.PointFields.{length_mark, length_last, length_point_file, first_point, entry_spans, file_fields, file_spans}
use Rattle.rules.specs.Laws.PointFile.{Writable, Holds, Roomy, Reads, OfPoints}

pub holds_pq : (s : Survey) → Holds pq s
holds_pq s e i l = let z : ◌≡◌ {A = ℕ} 0 1 = cc in absurd (omega arith)

-- ---- what is read of a file with these fields

-- the finest cells are few enough for a position of two bytes
finest : (m h x : ℕ) → m ≤ 16 → h ≤ 5 → x ≤ 16 * cells_at m h → x < 256 ^ 2
finest m h x w l t = omega (arith, cells_at_most m h w l)

-- a list by its entries
entries_list : {A : Type 0} (f : ℕ → A) (l : List A) (d : A) (p : ℕ) → p ≡ length l → ((i : ℕ) → i < length l → f i ≡ get_or l i d) → tabulate p f ≡ l
entries_list f l d p e h =
    ap (λ k. tabulate k f) e ∙ tabulate_same (length l) f (λ i. get_or l i d) h ∙ tabulate_take (length l) l d (omega arith) ∙ take-length l

-- the kind of a mark
mark_kind : (k : Kind) → cond (same (mark_of k) PQ) pq pt ≡ k
unfolding PT PQ same
mark_kind pt = refl
mark_kind pq = refl

-- the last field of a record, in either kind
last_read : {file : List ℕ} {b c q : ℕ} (k : Kind) → (k ≡ pt → q ≡ 1) → q ≤ 255 → Spans file b c (last_byte k q) → last_number k file b ≡ q
unfolding last_number
last_read pt one l x = sym (one refl)
last_read pq one l x = number_read 1 (omega arith) x

last_spans : {file : List ℕ} {q : ℕ} (k : Kind) (b : ℕ) → AreBytes file → last_number k file (b + 14) ≡ q → b + size_of k ≤ length file
    → Spans file (b + 14) (b + size_of k) (last_byte k q)
unfolding last_number
last_spans pt b h e l = record { cut = refl; ends = omega arith }
last_spans pq b h e l = number_spans h 1 e (omega arith) l

module _ {file : List ℕ} {k : Kind} {a : Shape} {s : Survey} (w : Writable a s) (hold : Holds k s) (x : Fields file k a s) where
  read_shape : file_shape file ≡ a
  unfolding file_shape
  read_shape = λ i. record {
    m0 = number_read 1 (omega (arith, w.surveyed.sides.1)) x.across i;
    n0 = number_read 1 (omega (arith, w.surveyed.sides.3)) x.up i;
    h = number_read 1 (omega (arith, w.surveyed.levels_most)) x.levels i;
  }

  read_points : file_points file ≡ point_count s
  unfolding file_points
  read_points = number_read 2 (omega (arith, w.surveyed.points_most)) x.points

  -- the first record sets the kind
  read_kind : 0 < point_count s → kind_of file ≡ k
  unfolding kind_of
  read_kind l = rw (spans_take 2 (length_mark k) (spans_moved (sym (first_point k)) refl (x.point 0 l).mark)) (mark_kind k)

  -- and with no points the records end where they begin, in both
  read_end : point_start (kind_of file) (point_count s) ≡ point_start k (point_count s)
  read_end = go (point_count s) refl
    where
      go : (p : ℕ) → point_count s ≡ p → point_start (kind_of file) p ≡ point_start k p
      go zero e = sym (first_point (kind_of file)) ∙ first_point k
      go (suc p) e = ap (λ k. point_start k (suc p)) (read_kind (omega arith))

  module _ (i : ℕ) (l : i < point_count s) where
    own_kind : kind_of file ≡ k
    own_kind = read_kind (omega arith)

    read_x : file_x file i ≡ (point_at s i).x
    unfolding file_x columns
    read_x = rw own_kind (number_read 2 (finest a.m0 a.h (point_at s i).x w.surveyed.sides.1 w.surveyed.levels_most (w.placed i l).x_inside) (x.point i l).at_x)

    read_y : file_y file i ≡ (point_at s i).y
    unfolding file_y rows
    read_y = rw own_kind (number_read 2 (finest a.n0 a.h (point_at s i).y w.surveyed.sides.3 w.surveyed.levels_most (w.placed i l).y_inside) (x.point i l).at_y)

    read_z : file_z file i ≡ (point_at s i).z
    unfolding file_z
    read_z = rw own_kind (value_read (w.placed i l).z_size (x.point i l).at_z)

    read_q : file_q file i ≡ (point_at s i).q
    unfolding file_q
    read_q = rw own_kind (last_read k (λ e. hold e i l) (w.placed i l).q_most (x.point i l).at_q)

    point_met : point_record_check a file i ≡ none
    unfolding point_record_check inside confident
    point_met =
        let p = w.placed i l in
        let fits = spans_fits (entry_spans (x.point i l)) (omega (arith, length_last k 0)) in
        rw (own_kind, read_x, read_y, read_z, read_q)
        (then_none _ _ (record_met (mark_of k) (length_mark k) file (point_start k i) (size_of k) fits (x.point i l).mark)
        ∙ then_none _ _ (require_met _ _ (le→leb _ _ p.x_inside))
        ∙ then_none _ _ (require_met _ _ (le→leb _ _ p.y_inside))
        ∙ then_none _ _ (require_met _ _ (size_in_range (point_at s i).z p.z_size))
        ∙ require_met _ _ (bounds_within 1 255 (point_at s i).q (p.q_some, p.q_most)))

  head_met : point_head_check file ≡ none
  unfolding point_head_check
  head_met =
      rw read_shape
      (then_none _ _ (record_met PH (unfold PH in refl) file 0 8 (spans_fits x.points (omega arith)) x.head)
      ∙ then_none _ _ (require_met _ _ (bounds_within 1 16 a.m0 (w.surveyed.sides.0, w.surveyed.sides.1)))
      ∙ then_none _ _ (require_met _ _ (bounds_within 1 16 a.n0 (w.surveyed.sides.2, w.surveyed.sides.3)))
      ∙ then_none _ _ (require_met _ _ (le→leb a.h 5 w.surveyed.levels_most))
      ∙ require_met _ _ (rw (number_read 1 (omega arith) x.blank) (eqb_refl 0)))

  check_met : length file ≡ point_file_length k (point_count s) → point_file_check file ≡ none
  unfolding point_file_check point_file_length
  check_met l =
      rw (read_shape, read_points)
      (then_none _ _ head_met
      ∙ then_none _ _ (first_of_all (point_count s) (point_record_check a file) point_met)
      ∙ require_met _ _ (rw (l, read_end) (eqb_refl (point_start k (point_count s)))))

  read_survey : file_survey file ≡ s
  unfolding file_survey
  read_survey = λ i. record { xs = x_list i; ys = y_list i; zs = z_list i; qs = q_list i }
    where
      as_many : {n : ℕ} → n ≡ point_count s → file_points file ≡ n
      as_many e = read_points ∙ sym e

      x_list : tabulate (file_points file) (file_x file) ≡ s.xs
      x_list = entries_list (file_x file) s.xs 0 (file_points file) read_points read_x

      y_list : tabulate (file_points file) (file_y file) ≡ s.ys
      y_list = entries_list (file_y file) s.ys 0 (file_points file) (as_many w.surveyed.as_many_y) (λ i l. read_y i (rw w.surveyed.as_many_y at l))

      z_list : tabulate (file_points file) (file_z file) ≡ s.zs
      z_list = entries_list (file_z file) s.zs (pos 0) (file_points file) (as_many w.surveyed.as_many_z) (λ i l. read_z i (rw w.surveyed.as_many_z at l))

      q_list : tabulate (file_points file) (file_q file) ≡ s.qs
      q_list = entries_list (file_q file) s.qs 0 (file_points file) (as_many w.surveyed.as_many_q) (λ i l. read_q i (rw w.surveyed.as_many_q at l))

-- ---- what an accepted file has shown

below : (file : List ℕ) (i : ℕ) → i < point_count (file_survey file) → i < file_points file
unfolding file_survey
below file i l = rw length_tabulate at l

-- the entry that stands in a list of the survey
entry_at : {A : Type 0} (file : List ℕ) (f : ℕ → A) (d : A) (i : ℕ) → i < point_count (file_survey file) → get_or (tabulate (file_points file) f) i d ≡ f i
entry_at file f d i l = get_d_tabulate (file_points file) f i d (below file i l)

module _ (file : List ℕ) (e : point_file_check file ≡ none) (b : AreBytes file) where
  head_none : point_head_check file ≡ none
  unfolding point_file_check
  head_none = then_first _ _ e

  point_none : (i : ℕ) → i < point_count (file_survey file) → point_record_check (file_shape file) file i ≡ none
  unfolding point_file_check
  point_none i l =
      first_of_none (file_points file) (point_record_check (file_shape file) file) (then_first _ _ (then_rest _ _ e)) i (below file i l)

  read_length : length file ≡ point_file_length (kind_of file) (point_count (file_survey file))
  unfolding point_file_check point_file_length file_survey
  read_length = rw (length_tabulate (file_points file) (file_x file)) (eqb→eq _ _ (required _ _ (then_rest _ _ (then_rest _ _ e))))

  head_fits : 0 + 8 ≤ length file
  unfolding point_head_check
  head_fits = record_fits PH (unfold PH in refl) file 0 8 (then_first _ _ head_none)

  pub read_writable : Writable (file_shape file) (file_survey file)
  unfolding point_head_check point_record_check file_points file_survey inside confident
  read_writable =
      let past-mark = then_rest _ _ head_none in
      let past-m0 = then_rest _ _ past-mark in
      let past-n0 = then_rest _ _ past-m0 in
      let across = within_bounds 1 16 _ (required _ _ (then_first _ _ past-mark)) in
      let up = within_bounds 1 16 _ (required _ _ (then_first _ _ past-m0)) in
      let count = length_tabulate (file_points file) (file_x file) in
      record {
        surveyed = record {
          sides = (across.0, across.1, up.0, up.1);
          levels_most = leb→le _ _ (required _ _ (then_first _ _ past-n0));
          as_many_y = length_tabulate (file_points file) (file_y file) ∙ sym count;
          as_many_z = length_tabulate (file_points file) (file_z file) ∙ sym count;
          as_many_q = length_tabulate (file_points file) (file_q file) ∙ sym count;
          points_most = rw count (omega (arith, number_below file b 6 2 (omega (arith, head_fits))));
        };
        placed = λ i l.
            let at_x = then_rest _ _ (point_none i l) in
            let at_y = then_rest _ _ at_x in
            let at_z = then_rest _ _ at_y in
            let q = within_bounds 1 255 _ (required _ _ (then_rest _ _ at_z)) in
            record {
              x_inside = rw (entry_at file (file_x file) 0 i l) (leb→le _ _ (required _ _ (then_first _ _ at_x)));
              y_inside = rw (entry_at file (file_y file) 0 i l) (leb→le _ _ (required _ _ (then_first _ _ at_y)));
              z_size = rw (entry_at file (file_z file) (pos 0) i l) (in_range_size _ (required _ _ (then_first _ _ at_z)));
              q_some = rw (entry_at file (file_q file) 0 i l) q.0;
              q_most = rw (entry_at file (file_q file) 0 i l) q.1;
            };
      }

  pub read_holds : Holds (kind_of file) (file_survey file)
  unfolding file_survey file_q last_number
  read_holds e i l = entry_at file (file_q file) 0 i l ∙ rw e

  read_entry : (i : ℕ) → i < point_count (file_survey file) → Entry file (point_start (kind_of file) i) (kind_of file) (point_at (file_survey file) i)
  unfolding point_record_check file_x file_y file_z file_q file_survey
  read_entry i l =
      let k = kind_of file in
      let stands = then_first _ _ (point_none i l) in
      let fits = record_fits (mark_of k) (length_mark k) file (point_start k i) (size_of k) stands in
      let long = length_last k 0 in
      record {
        mark = record_mark (mark_of k) (length_mark k) file (point_start k i) (size_of k) stands;
        at_x = number_spans b 2 (sym (entry_at file (file_x file) 0 i l)) (omega arith) (omega arith);
        at_y = number_spans b 2 (sym (entry_at file (file_y file) 0 i l)) (omega arith) (omega arith);
        at_z = value_spans b (sym (entry_at file (file_z file) (pos 0) i l)) (omega arith) (omega arith);
        at_q = last_spans k (point_start k i) b (sym (entry_at file (file_q file) 0 i l)) fits;
      }

  pub read_fields : Fields file (kind_of file) (file_shape file) (file_survey file)
  unfolding point_head_check file_shape file_points file_survey
  read_fields =
      let blank = required _ _ (then_rest _ _ (then_rest _ _ (then_rest _ _ (then_rest _ _ head_none)))) in
      record {
        head = record_mark PH (unfold PH in refl) file 0 8 (then_first _ _ head_none);
        across = number_spans b 1 refl (omega arith) (omega (arith, head_fits));
        up = number_spans b 1 refl (omega arith) (omega (arith, head_fits));
        levels = number_spans b 1 refl (omega arith) (omega (arith, head_fits));
        blank = number_spans b 1 (eqb→eq (number_at 1 file 5) 0 blank) (omega arith) (omega (arith, head_fits));
        points = number_spans b 2 (sym (length_tabulate (file_points file) (file_x file))) (omega arith) (omega (arith, head_fits));
        point = read_entry;
      }

  pub written_read : point_file (kind_of file) (file_shape file) (file_survey file) ≡ file
  written_read = spans_file (spans_moved refl (sym read_length) (file_spans read_fields))

-- the file of points that its kind can hold
pub read_file : (k : Kind) (a : Shape) (s : Survey) → Writable a s → Holds k s → Reads (point_file k a s) a s
unfolding read_points_call read_points_check call
read_file k a s w hold =
    let p = point_count s in
    let file = point_file k a s in
    let x : Fields file k a s = file_fields (spans_moved refl (length_point_file k a s) (spans_whole file)) in
    let accepts = check_met w hold x (length_point_file k a s) in
    let points = read_survey w hold x in
    let checks : (lent : Survey) → Roomy s lent → read_points_check file lent ≡ none =
    λ lent room.
    let x-room = leb p (length lent.xs) in
    let y-room = leb p (length lent.ys) in
    let z-room = leb p (length lent.zs) in
    let two = and_i x-room y-room (le→leb _ _ room.for_x) (le→leb _ _ room.for_y) in
    let three = and_i (x-room && y-room) z-room two (le→leb _ _ room.for_z) in
    let all = and_i (x-room && y-room && z-room) (leb p (length lent.qs)) three (le→leb _ _ room.for_q) in
    then_none _ _ accepts ∙ require_met _ _ (rw (read_points w hold x) all) in
    record {
      accepts = accepts;
      shape = read_shape w hold x;
      points = points;
      reads = λ lent room. rw (checks lent room, read_shape w hold x, read_points w hold x, points);
    }

-- what the writer writes
pub read_written : (a : Shape) (s : Survey) → Writable a s → Reads (point_file pq a s) a s
read_written a s w = read_file pq a s w (holds_pq s)

pub accepted_files : (file : List ℕ) → AreBytes file → (point_file_check file ≡ none) ↔ OfPoints file
accepted_files file h = (
  λ e. record {
    kind = kind_of file;
    shape = file_shape file;
    points = file_survey file;
    writable = read_writable file e h;
    holds = read_holds file e h;
    written = written_read file e h;
  },
  λ o. rw (← o.written) (read_file o.kind o.shape o.points o.writable o.holds).accepts,
)

-- what the writer asks, besides a slice that is long enough
pub writer_accepts : (a : Shape) (s : Survey) (output : List ℕ)
    → (write_points_check a s output ≡ none) ↔ (Writable a s × (point_file_length pq (point_count s) ≤ length output))
unfolding write_points_check
writer_accepts a s output = (
  λ e.
      let past-survey = then_rest _ _ e in
      let surveyed = survey_passed a s (then_first _ _ e) in
      let long = leb→le _ _ (required _ _ (then_first _ _ past-survey)) in
      (record { surveyed = surveyed; placed = points_passed 16 (columns a a.h) (rows a a.h) s (then_rest _ _ past-survey) }, long),
  λ p.
      then_none _ _ (surveyed_passes a s p.0.surveyed)
      ∙ then_none _ _ (require_met _ _ (le→leb _ _ p.1))
      ∙ placed_pass 16 (columns a a.h) (rows a a.h) s p.0.placed,
)
