-- The head, the records and the end are checked in the order of the rules.
use Rattle.std.proofs.Common.{◌≡◌, refl, sym, ap, ◌∙◌, List, ℕ, ◌*◌, ◌%◌, ◌^◌, ◌≤◌, length, Fits, w64, arith}
use Rattle.std.proofs.Math.Option.{none, some}
use Rattle.std.proofs.lemmas.Result.{err_from_is_err_and}
use borrow.Author.Tests.{eq-eqb, ne_eqb}
use Rattle.rules.specs.Fit.{Shape, columns, rows}
use Rattle.rules.specs.Answers.{Refusal, require, ◌then◌, first_of, trailing, accepted, refused, answer}
use Rattle.rules.specs.PointFile.{kind_of, point_start, file_shape, file_points, point_head_check, point_record_check, point_file_check}
use Rattle.rules.specs.Bytes.{number_at}
use Rattle.rules.proofs.Laws.Passed.{cells_at_most, cells_at_shifted}
use Rattle.rules.proofs.Laws.PointFields.{start_most}
use Rattle.point_records.specs.Read.{header, ruled}
use Rattle.point_records.specs.Records.{HeadBounds, number_at_one, head_passed}
use Rattle.point_records.proofs.judge.Goals as goal
use Rattle.point_records.proofs.judge.Goals.{After-start-end}

module _ (file : List ℕ) where
  at_head : (r : Refusal) → some r ≡ point_head_check file → refused r ≡ answer (point_file_check file) (header file)
  unfolding point_file_check ◌then◌ answer
  at_head r e = rw (← e)

  -- p is the number of points that the head says
  module _ (p : ℕ) (is : p ≡ number_at 2 file 6) (head : none ≡ point_head_check file) where
    at_point : (r : Refusal) → some r ≡ first_of p (point_record_check (file_shape file) file) → refused r ≡ answer (point_file_check file) (header file)
    unfolding point_file_check file_points ◌then◌ answer
    at_point r e = rw (← head, ← is, ← e)

    module _ (points : none ≡ first_of p (point_record_check (file_shape file) file)) {end : ℕ} (ends : end ≡ point_start (kind_of file) p) where
      at_end : (length file ≡ end → ⊥) → refused (trailing end) ≡ answer (point_file_check file) (header file)
      unfolding point_file_check file_points require ◌then◌ answer
      at_end e = rw (← head, ← is, ← points, ← ends, ne_eqb _ _ e)

      whole : length file ≡ end
          → {a : Shape} → a ≡ file_shape file → accepted (record { shape = a; points = p }) ≡ answer (point_file_check file) (header file)
      unfolding point_file_check file_points require ◌then◌ answer
      whole e read = rw (← head, ← is, ← points, ← ends, eq-eqb _ _ e, read)

-- what the head has shown of the shape a that it has read
module _ (file : List ℕ) (a : Shape) (head : none ≡ point_head_check file) (read : a ≡ file_shape file) where
  bounds : HeadBounds file
  bounds = head_passed file (sym head)

  most : (a.m0 ≤ 16) × (a.n0 ≤ 16) × (a.h ≤ 5)
  unfolding file_shape
  most = rw (read, number_at_one file 2, number_at_one file 3, number_at_one file 4) (bounds.m0, bounds.n0, bounds.h)

  -- the last positions
  right_is : 16 * ((a.m0 * 2 ^ a.h) % 2 ^ 64) ≡ 16 * columns (file_shape file) (file_shape file).h
  unfolding columns
  right_is = rw (cells_at_shifted a.m0 a.h most.0 most.2, read) refl

  top_is : 16 * ((a.n0 * 2 ^ a.h) % 2 ^ 64) ≡ 16 * rows (file_shape file) (file_shape file).h
  unfolding rows
  top_is = rw (cells_at_shifted a.n0 a.h most.1 most.2, read) refl

last_fits : (m h : ℕ) → m ≤ 16 → h ≤ 5 → Fits w64 (16 * ((m * 2 ^ h) % 2 ^ 64))
last_fits m h most-m most-h = record { fits = rw (cells_at_shifted m h most-m most-h) (omega (arith, cells_at_most m h most-m most-h)) }

pub returns-in_err-shape : goal.returns-in_err-shape
returns-in_err-shape c =
    let p = err_from_is_err_and c.from_residual.result c.from_residual.ensures.1 in
    rw (p.1, p.2) (at_head _ _ c.in_err-shape.ensures.checked)

pub u16_at-p-requires : goal.u16_at-p-requires
u16_at-p-requires c = (bounds _ _ c.in_ok-shape.ensures.checked c.in_ok-shape.ensures.read).complete

pub overflow_shl-right : goal.overflow_shl-right
overflow_shl-right c = omega (arith, most _ _ c.in_ok-shape.ensures.checked c.in_ok-shape.ensures.read)

pub overflow_mul-right : goal.overflow_mul-right
overflow_mul-right c = let b = most _ _ c.in_ok-shape.ensures.checked c.in_ok-shape.ensures.read in last_fits _ _ b.0 b.2

pub overflow_shl-top : goal.overflow_shl-top
overflow_shl-top c = omega (arith, most _ _ c.in_ok-shape.ensures.checked c.in_ok-shape.ensures.read)

pub overflow_mul-top : goal.overflow_mul-top
overflow_mul-top c = let b = most _ _ c.in_ok-shape.ensures.checked c.in_ok-shape.ensures.read in last_fits _ _ b.1 b.2

pub invariant_of-measure : goal.invariant_of-measure
invariant_of-measure c =
    let e = c.in_ok-shape.ensures in
    record { measured = record { alike = c.kind_of-kind.ensures; right_is = right_is _ _ e.checked e.read; top_is = top_is _ _ e.checked e.read } }

pub returns-in_err-points : goal.returns-in_err-points
returns-in_err-points c =
    let p = err_from_is_err_and c.from_residual-in_err-points.result c.from_residual-in_err-points.ensures.1 in
    rw (p.1, p.2) (at_point _ _ c.u16_at-p.ensures c.in_ok-shape.ensures.checked _ c.in_err-points.ensures)

pub start-end-requires : goal.start-end-requires
start-end-requires c = omega (arith, start_most (ruled c.kind_of-kind.result) c.u16_at-p.result (omega arith))

-- where the records end
ends : (c : After-start-end) → c.start-end.result ≡ point_start (kind_of c.args.file.now) c.u16_at-p.result
ends c = c.start-end.ensures.value ∙ ap (λ k. point_start k c.u16_at-p.result) c.kind_of-kind.ensures

pub returns-then-file-end : goal.returns-then-file-end
returns-then-file-end c =
    at_end _ _ c.u16_at-p.ensures c.in_ok-shape.ensures.checked c.in_ok-points.ensures (ends (goal.at.returns-then-file-end c).After-start-end) c.if-file-end.true

pub returns : goal.returns
returns c =
    whole _ _ c.u16_at-p.ensures c.in_ok-shape.ensures.checked c.in_ok-points.ensures (ends (goal.at.returns c).After-start-end) c.if-file-end.false c.in_ok-shape.ensures.read
