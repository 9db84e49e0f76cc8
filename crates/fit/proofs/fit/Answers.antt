-- A refusal before the levels is the first check that fails and leaves all as it was; what `run` leaves is cleared.
use Rattle.std.proofs.Common.{◌≡◌, sym, ap, ◌∙◌, List, ◌++◌, ℕ, ◌+◌, ◌*◌, ◌≤◌, arith, ℤ, pos, length, drop, replicate, length-take, w64, to_z, of_z}
use Rattle.std.proofs.Math.Option.{none}
use Rattle.std.proofs.lemmas.Result.{err_from_is_err_and}
use Rattle.algebra.specs.Table.{over}
use Rattle.machine.specs.Held.{Held, read}
use Rattle.rules.specs.Grid.{limit}
use Rattle.rules.specs.Level.{zero64}
use Rattle.rules.specs.Answers.{Check, ◌then◌}
use Rattle.rules.specs.Fit.{Shape, Survey, survey, point_count, columns, rows, base, difference_check}
use Rattle.rules.specs.Calls.{Lent, lent, K, survey_check, room_check, lent_check, points_check}
use Rattle.rules.proofs.Laws.Base.{base_size}
use Rattle.rules.specs.Laws.Checks.{AllInRange}
use Rattle.rules.proofs.Laws.Checks.{then_first}
use Rattle.rules.specs.Laws.Passed.{Surveyed}
use Rattle.rules.proofs.Laws.Passed.{survey_passed}
use Rattle.survey.specs.Survey.{shape_of, survey_of}
use Rattle.point_checks.specs.Told as points
use Rattle.fit.proofs.Answering.{pointed, refused_head, refused_room, refused_points, run_cleared, heights_ranged, controls_few, room_is, Roomy, roomy, most_is, points_is, run_ready, filled}
use Rattle.fit.proofs.fit.Goals as goal
use Rattle.fit.proofs.fit.Goals.{In_ok-points, After-len-p}

-- ---- what is known behind each check

-- a base, by its bits, read back
base_read : (z : ℤ) (zs : List ℤ) → z ≡ base zs → AllInRange (length zs) zs → to_z w64 (of_z w64 z) ≡ base zs
base_read z zs e range =
    let held : Held z (base zs) limit = record { is = e; size = base_size zs range } in
    (read tt held).is

shown : (a : Shape) {s r : Survey} → s ≡ r → none ≡ survey_check a r → survey_check a s ≡ none
shown a same e = rw same (sym e)

module _ (c : After-len-p) where
  abbrev a : Shape
  a = shape_of c.args.shape

  abbrev s : Survey
  s = survey_of c.in_ok-points.points

  abbrev slices : Lent
  slices = lent c.args.lattice.now c.args.residual.now c.args.whole.now c.args.floats.now

  abbrev most : ℕ
  most = c.controls-most.result

  head_none : survey_check a s ≡ none
  head_none = shown a c.in_ok-points.ensures.points c.in_ok-points.ensures.checked

  surveyed : Surveyed a s
  surveyed = survey_passed a s head_none

  most_known : most ≡ K a
  most_known = let cells = c.cells-cells.ensures in most_is a cells.m_is cells.n_is c.controls-most.ensures

  few : most ≤ 265_225
  few =
      let cells = c.cells-cells.result in
      rw c.controls-most.ensures (controls_few cells.m cells.n cells.few.0 cells.few.1)

  -- what `room` told
  module _ {told : Check} (is : told ≡ room_check most c.len-p.result (length c.args.lattice.now) (length c.args.residual.now) (length c.args.whole.now) (length c.args.floats.now)) where
    counted : told ≡ room_check most (point_count s) (length c.args.lattice.now) (length c.args.residual.now) (length c.args.whole.now) (length c.args.floats.now)
    counted =
        is
        ∙ ap (λ n. room_check most n (length c.args.lattice.now) (length c.args.residual.now) (length c.args.whole.now) (length c.args.floats.now)) c.len-p.ensures

    room_found : lent_check a (point_count s) slices ≡ told
    room_found = sym (counted ∙ room_is a (point_count s) most slices most_known)

  lengths : none ≡ room_check most c.len-p.result (length c.args.lattice.now) (length c.args.residual.now) (length c.args.whole.now) (length c.args.floats.now)
      → Roomy (point_count s) most (length c.args.lattice.now) (length c.args.residual.now) (length c.args.whole.now) (length c.args.floats.now)
  lengths is = roomy _ _ _ _ _ _ (sym (counted is))

  -- what `base_of` checks
  abbrev asked : Check
  asked = points_check 16 c.cells-cells.result.m c.cells-cells.result.n s then difference_check s.zs

  points_found : {o : Check} → asked ≡ o → pointed a s ≡ o
  points_found e = let cells = c.cells-cells.ensures in sym (points_is a cells.m_is cells.n_is s) ∙ e

  ranged : asked ≡ none → AllInRange (length s.zs) s.zs
  ranged e = heights_ranged (columns a a.h) (rows a a.h) s surveyed.as_many_z (then_first _ _ (points_found e))

-- ---- refusals

pub returns-in_err-points : goal.returns-in_err-points
returns-in_err-points c =
    let a = c.args in
    let r = err_from_is_err_and c.from_residual.result c.from_residual.ensures.1 in
    let p = refused_head (shape_of a.shape) (survey a.xs.now a.ys.now a.zs.now a.qs.now) (lent a.lattice.now a.residual.now a.whole.now a.floats.now) (sym c.in_err-points.ensures.checked) in
    record { answer = rw (r.1, r.2) p.0; stated_distance = rw (r.1, r.2) p.1 }

pub returns-in_err-room : goal.returns-in_err-room
returns-in_err-room c =
    let d = (goal.at.returns-in_err-room c).After-len-p in
    let e = c.from_residual-in_err-room in
    let r = err_from_is_err_and e.result e.ensures.1 in
    let p = refused_room (a d) (s d) (slices d) (head_none d) (room_found d c.in_err-room.ensures) in
    record { answer = rw (r.1, r.2, ← c.in_ok-points.ensures.points) p.0; stated_distance = rw (r.1, r.2, ← c.in_ok-points.ensures.points) p.1 }

pub returns-in_err-base : goal.returns-in_err-base
returns-in_err-base c =
    let d = (goal.at.returns-in_err-base c).After-len-p in
    let e = c.from_residual-in_err-base in
    let r = err_from_is_err_and e.result e.ensures.1 in
    let found = points.refused (asked d) (base (s d).zs) c.base_of.ensures c.in_err-base.was in
    let p = refused_points (a d) (s d) (slices d) (head_none d) (room_found d c.in_ok-room.ensures) (points_found d found) in
    record { answer = rw (r.1, r.2, ← c.in_ok-points.ensures.points) p.0; stated_distance = rw (r.1, r.2, ← c.in_ok-points.ensures.points) p.1 }

-- ---- what each call asks

pub cells-cells-requires : goal.cells-cells-requires
cells-cells-requires c =
    let p = c.in_ok-points.ensures in
    let w = survey_passed _ _ (shown (shape_of c.args.shape) p.points p.checked) in
    (w.sides.1, w.sides.3, w.levels_most)

pub room-requires : goal.room-requires
room-requires c =
    let d = (goal.at.room-requires c).After-len-p in
    (few d, omega (arith, (surveyed d).points_most, c.len-p.ensures))

pub run-answer-requires-clause-levelable : goal.run-answer-requires-clause-levelable
run-answer-requires-clause-levelable c =
    let d = (goal.at.run-answer-requires-clause-levelable c).After-len-p in
    let r = lengths d c.in_ok-room.ensures in
    let known = points.summed (asked d) (base (s d).zs) c.base_of.ensures c.in_ok-base.was in
    (rw (← most_known d) (run_ready (surveyed d) (points_found d known.0) (most_known d) (few d) r), rw (← most_known d) r.for_lattice, r.for_residual)

pub run-answer-requires-clause-based : goal.run-answer-requires-clause-based
run-answer-requires-clause-based c =
    let d = (goal.at.run-answer-requires-clause-based c).After-len-p in
    let known = points.summed (asked d) (base (s d).zs) c.base_of.ensures c.in_ok-base.was in
    (base_read c.in_ok-base.base (s d).zs (sym known.1) (ranged d known.0), ranged d known.0)

pub overflow_mul-most : goal.overflow_mul-most
overflow_mul-most c = omega (arith, few (goal.at.overflow_mul-most c).After-len-p)

pub overflow_add-most : goal.overflow_add-most
overflow_add-most c =
    let d = (goal.at.overflow_add-most c).After-len-p in
    omega (arith, few d, (surveyed d).points_most, c.len-p.ensures)

pub slice_bounds-fill-end : goal.slice_bounds-fill-end
slice_bounds-fill-end c =
    let r = lengths (goal.at.slice_bounds-fill-end c).After-len-p c.in_ok-room.ensures in
    omega (arith, r.for_whole, c.len-p.ensures, c.run-answer.auto.whole)

pub slice_bounds-fill-end-2 : goal.slice_bounds-fill-end-2
slice_bounds-fill-end-2 c =
    let r = lengths (goal.at.slice_bounds-fill-end-2 c).After-len-p c.in_ok-room.ensures in
    simp length-take (omega (arith, r.for_whole, c.len-p.ensures, c.run-answer.auto.whole))

pub overflow_mul-most-2 : goal.overflow_mul-most-2
overflow_mul-most-2 c = omega (arith, few (goal.at.overflow_mul-most-2 c).After-len-p)

pub slice_bounds-fill-end-3 : goal.slice_bounds-fill-end-3
slice_bounds-fill-end-3 c =
    let r = lengths (goal.at.slice_bounds-fill-end-3 c).After-len-p c.in_ok-room.ensures in
    omega (arith, r.for_floats, c.run-answer.auto.floats)

pub slice_bounds-fill-end-4 : goal.slice_bounds-fill-end-4
slice_bounds-fill-end-4 c =
    let r = lengths (goal.at.slice_bounds-fill-end-4 c).After-len-p c.in_ok-room.ensures in
    simp length-take (omega (arith, r.for_floats, c.run-answer.auto.floats))

-- ---- what the levels leave

pub returns : goal.returns
returns c =
    let d = (goal.at.returns c).After-len-p in
    let last = c.run-answer.new in
    let r = lengths d c.in_ok-room.ensures in
    let n = c.len-p.ensures in
    let known = points.summed (asked d) (base (s d).zs) c.base_of.ensures c.in_ok-base.was in
    let whole : c.fill.new.self ++ drop (3 * most d + c.len-p.result) last.whole ≡ over (replicate (3 * most d + point_count (s d)) (pos 0)) last.whole =
    filled (3 * most d + c.len-p.result) (pos 0) last.whole (omega (arith, r.for_whole, n, c.run-answer.auto.whole)) (c.fill.ensures.after (λ y e. e))
    ∙ ap (λ k. over (replicate (3 * most d + k) (pos 0)) last.whole) n in
    let floats : c.fill-2.new.self ++ drop (2 * most d) last.floats ≡ over (replicate (2 * most d) zero64) last.floats =
    filled (2 * most d) zero64 last.floats (omega (arith, r.for_floats, c.run-answer.auto.floats)) (c.fill-2.ensures.after (λ y e. e)) in
    let p =
    run_cleared (a d) (s d) (slices d) (head_none d) (room_found d c.in_ok-room.ensures) (lent last.lattice last.residual last.whole last.floats)
    (points_found d known.0) (most_known d) c.run-answer.ensures whole floats in
    record { answer = rw (← c.in_ok-points.ensures.points) p.0; stated_distance = rw (← c.in_ok-points.ensures.points) p.1 }
