-- What the program writes at each of its tests: too many bytes, a file that is refused, too many cells, and a survey that is taken.
use Rattle.std.specs.Prelude.{ℕ, ◌≤◌, ◌<◌, ◌≡◌, refl, Bool, true, false, ◌&&◌, List, T, leb, length, take}
use Rattle.std.proofs.Common.{sym, ap, subst, ◌∙◌, arith, le-leb, leb→le, le→leb, eqb→eq, take_at}
use Rattle.std.proofs.Math.Option.{none, some}
use Rattle.std.proofs.Math.Facts.{and_yes}
use Rattle.std.proofs.lemmas.Bool.{lt-leb}
use Rattle.algebra.specs.Table.{tabulate, over, length_tabulate}
use Rattle.rules.specs.Fit.{Shape, columns, rows, Survey, survey, point_count, difference_check, in_levels_check}
use Rattle.rules.specs.Answers.{Refusal, Check, require, ◌then◌, short, Answer, accepted, refused, outcome}
use Rattle.rules.specs.PointFile.{Kind, pt, pq, Header, point_start, file_shape, file_points, kind_of, file_start, file_x, file_y, file_z, file_q, file_survey}
use Rattle.rules.specs.PointFile.{point_file_check, read_points_check, over_lists, read_points_call}
use Rattle.rules.specs.Program.{refused_line, program_check, written, program_output}
use Rattle.rules.specs.Laws.Bytes.{AreBytes}
use Rattle.rules.proofs.Laws.Checks.{required, require_met, then_rest, then_none, call_unrefused, call_value, call_after, call_refusal}
use Rattle.rules.specs.Laws.PointFile.{Writable}
use Rattle.rules.proofs.Laws.PointFile.{read_writable}
use Rattle.respond.specs.Taken.{Taken, answer_text}

-- at most 16 finest cells a side
abbrev pub few : Shape → Bool
few a = leb (columns a a.h) 16 && leb (rows a a.h) 16

-- the first p points of the slices
abbrev pub first_points : ℕ → Survey → Survey
first_points p s = survey (take p s.xs) (take p s.ys) (take p s.zs) (take p s.qs)

-- in either kind of file
points_room : (k : Kind) (p : ℕ) → point_start k p ≤ 7_508 → p ≤ 535
unfolding point_start
points_room pt p h = omega arith
points_room pq p h = omega arith

-- a file of at most 7,508 bytes that was accepted with the header a, and its points at the start of the slices
pub record ReadAs (file : List ℕ) (a : Header) (got : Survey) : Type 0 where
  bytes : AreBytes file
  short : length file ≤ 7_508
  passed : point_file_check file ≡ none
  shape_is : file_shape file ≡ a.shape
  count_is : file_points file ≡ a.points
  points_are : first_points a.points got ≡ file_survey file

module _ (file : List ℕ) where
  pub too_long : 7_508 < length file → refused_line short ≡ program_output file
  unfolding program_output program_check written require ◌then◌
  too_long h = rw (lt-leb (length file) 7_508 h) refl

  module _ (h : length file ≤ 7_508) where
    check_is : program_check file ≡ (point_file_check file then require (few (file_shape file)) short then difference_check (file_survey file).zs then in_levels_check (file_shape file) (file_survey file))
    unfolding program_check
    check_is = then_none _ _ (require_met _ _ (le→leb (length file) 7_508 h))

    points_most : point_file_check file ≡ none → file_points file ≤ 535
    unfolding point_file_check
    points_most e =
        let ends : length file ≡ file_start file (file_points file) = eqb→eq _ _ (required _ _ (then_rest _ _ (then_rest _ _ e))) in
        points_room (kind_of file) (file_points file) (omega arith)

    -- the reader with room for 535 points
    module _ (lent : Survey) (long-x : 535 ≡ length lent.xs) (long-y : 535 ≡ length lent.ys) (long-z : 535 ≡ length lent.zs) (long-q : 535 ≡ length lent.qs) where
      read_is : read_points_check file lent ≡ point_file_check file
      unfolding read_points_check require ◌then◌
      read_is = go (point_file_check file) refl
        where
          p : ℕ
          p = file_points file

          go : (c : Check) → point_file_check file ≡ c
              → (c then require (leb p (length lent.xs) && leb p (length lent.ys) && leb p (length lent.zs) && leb p (length lent.qs)) short) ≡ c
          go none e =
              let most = points_most e in
              rw
              (le-leb p (length lent.xs) (omega arith), le-leb p (length lent.ys) (omega arith), le-leb p (length lent.zs) (omega arith), le-leb p (length lent.qs) (omega arith))
              refl
          go (some r) e = refl

      module _ {told : Answer Header} {got : Survey} (read : outcome told got ≡ read_points_call file lent) where
        pub refusal : (r : Refusal) → told ≡ refused r → refused_line r ≡ program_output file
        unfolding program_output written read_points_call ◌then◌
        refusal r e = rw (check_is, ← read_is, call_refusal _ _ _ lent told got read r e) refl

        -- the file is accepted with the header a
        module _ (a : Header) (e : told ≡ accepted a) where
          passed : point_file_check file ≡ none
          unfolding read_points_call
          passed = sym read_is ∙ call_unrefused _ _ _ lent told got read a e

          header_is : record { shape = file_shape file; points = file_points file } ≡ a
          unfolding read_points_call
          header_is = call_value (read_points_check file lent) _ _ lent told got read a e

          count_is : file_points file ≡ a.points
          count_is = ap (λ (b : Header). b.points) header_is

          -- the first places of a slice that the reader has filled
          first : {A : Type 0} (f : ℕ → A) (d : List A) → take a.points (over (tabulate (file_points file) f) d) ≡ tabulate (file_points file) f
          unfolding over
          first f d = take_at (tabulate (file_points file) f) _ a.points (length_tabulate (file_points file) f ∙ count_is)

          points_are : first_points a.points got ≡ file_survey file
          unfolding read_points_call over_lists file_survey
          points_are =
              ap (first_points a.points) (call_after (read_points_check file lent) _ _ lent told got read a e)
              ∙ (λ i. survey (first (file_x file) lent.xs i) (first (file_y file) lent.ys i) (first (file_z file) lent.zs i) (first (file_q file) lent.qs i))

          pub read_as : AreBytes file → ReadAs file a got
          read_as bytes = record {
            bytes = bytes;
            short = h;
            passed = passed;
            shape_is = ap (λ (b : Header). b.shape) header_is;
            count_is = count_is;
            points_are = points_are;
          }

module _ {file : List ℕ} {a : Header} {got : Survey} (r : ReadAs file a got) where
  bounds : Writable (file_shape file) (file_survey file)
  bounds = read_writable file r.passed r.bytes

  pub points_fit : a.points ≤ 535
  points_fit = omega (arith, r.count_is, points_most file r.short r.passed)

  -- what `few_cells` asks
  pub shape_most : (a.shape.m0 ≤ 16) × (a.shape.n0 ≤ 16) × (a.shape.h ≤ 5)
  shape_most = rw (← r.shape_is) (bounds.surveyed.sides.1, bounds.surveyed.sides.3, bounds.surveyed.levels_most)

  pub too_many : few a.shape ≡ false → refused_line short ≡ program_output file
  unfolding program_output written require ◌then◌
  too_many l = rw (check_is file r.short, r.passed, r.shape_is, l) refl

  -- a survey that is taken
  module _ (fits : few a.shape ≡ true) where
    sides : T (leb (columns a.shape a.shape.h) 16) × T (leb (rows a.shape a.shape.h) 16)
    sides = and_yes (leb (columns a.shape a.shape.h) 16) (leb (rows a.shape a.shape.h) 16) (subst T (sym fits) tt)

    pub answer_is : answer_text a.shape (first_points a.points got) ≡ program_output file
    unfolding program_output answer_text written require ◌then◌
    answer_is = ap (answer_text a.shape) r.points_are ∙ rw (check_is file r.short, r.passed, r.shape_is, fits) refl

    pub taken : Taken a.shape (first_points a.points got)
    unfolding file_survey
    taken = record {
      writable = rw (← r.shape_is, r.points_are) bounds;
      across = leb→le _ 16 sides.0;
      up = leb→le _ 16 sides.1;
      few = omega (arith, ap (λ (s : Survey). point_count s) r.points_are, length_tabulate (file_points file) (file_x file), points_most file r.short r.passed);
    }
