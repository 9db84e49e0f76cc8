-- The differences are laid where the residuals start, and what the levels leave, with the base added, is delivered.
use Rattle.std.proofs.Common.{◌≡◌, ap, ◌∙◌, List, ℕ, arith, ◌*◌, ◌%◌, ℤ, pos, length, w64, to_z, of_z}
use Rattle.std.proofs.lemmas.Result.{err_from_is_err_and}
use Rattle.algebra.specs.Table.{over, area}
use Rattle.machine.specs.Held.{Number, number, Held, literal, read, minus, fits, small}
use Rattle.rules.specs.Grid.{limit}
use Rattle.rules.specs.Fit as rule
use Rattle.rules.specs.Fit.{Shape, Survey, columns, rows, from_base}
use Rattle.rules.specs.Calls.{K}
use Rattle.rules.specs.Laws.Checks.{AllInRange}
use Rattle.rules.proofs.Laws.Base.{base_size}
use Rattle.answers.specs.Cause.{check}
use Rattle.survey.specs.Survey.{shape_of, survey_of}
use Rattle.scratch.specs.Scratch.{Levelable, area_within, part_ranged}
use Rattle.fitting.proofs.Running.{less_base, differences_fit, levelable, whole_room, lattice_ranged, lattice_room, run_refused, final_refused, run_accepted}
use Rattle.fitting.proofs.run.Goals as goal
use Rattle.fitting.proofs.run.Goals.{After-len-p}

-- ---- what is known behind each call

-- the base, by its bits, read back
base_held : (base : ℤ) (zs : List ℤ) → base ≡ rule.base zs → AllInRange (length zs) zs → Held (to_z w64 (of_z w64 base)) (rule.base zs) limit
base_held base zs e range = read tt (record { is = e; size = base_size zs range })

module _ (c : After-len-p) where
  abbrev a : Shape
  a = shape_of c.args.shape

  abbrev s : Survey
  s = survey_of c.args.points.now

  abbrev most : ℕ
  most = c.controls-most.result

  most_is : most ≡ K a
  unfolding K columns rows
  most_is = c.controls-most.ensures ∙ rw (c.cells-cells.ensures.m_is, c.cells-cells.ensures.n_is)

  ready : Levelable a (from_base s) most (length c.args.whole.now) (length c.args.floats.now)
  ready = rw most_is c.requires.levelable.0

  abbrev based : Held (to_z w64 (of_z w64 c.args.base)) (rule.base s.zs) limit
  based = base_held c.args.base s.zs c.requires.based.0 c.requires.based.1

  -- 0 less the base
  abbrev lowering : Number
  lowering = number (minus (literal (pos 0)) based)

  -- what `shift` leaves
  lowered : (d : List ℤ) {part : List ℤ} → part ≡ over (rule.shifted (to_z w64 (of_z w64 lowering.code)) s.zs) d → part ≡ over (rule.differences s.zs) d
  lowered d = less_base s.zs d (read tt lowering.held).is

-- ---- the goals

pub cells-cells-requires : goal.cells-cells-requires
cells-cells-requires c =
    let q = c.requires.levelable.0.surveyed in
    (q.sides.1, q.sides.3, q.levels_most)

pub overflow_mul-residuals : goal.overflow_mul-residuals
overflow_mul-residuals c = omega (arith, ready (goal.at.overflow_mul-residuals c).After-len-p, c.len-p.ensures)

pub overflow_add-end : goal.overflow_add-end
overflow_add-end c = omega (arith, ready (goal.at.overflow_add-end c).After-len-p, c.len-p.ensures)

pub overflow_sub-base : goal.overflow_sub-base
overflow_sub-base c = fits tt (lowering (goal.at.overflow_sub-base c).After-len-p).held

pub offset_bounds-whole-residuals : goal.offset_bounds-whole-residuals
offset_bounds-whole-residuals c = omega (arith, ready (goal.at.offset_bounds-whole-residuals c).After-len-p, c.len-p.ensures)

pub slice_bounds-shift-end : goal.slice_bounds-shift-end
slice_bounds-shift-end c = omega (arith, ready (goal.at.slice_bounds-shift-end c).After-len-p, c.len-p.ensures)

pub shift-requires : goal.shift-requires
shift-requires c =
    let d = (goal.at.shift-requires c).After-len-p in
    (differences_fit (s d).zs c.args.whole.now (ready d) c.len-p.ensures, c.requires.based.1, small limit tt (read tt (lowering d).held))

pub fit_levels-requires : goal.fit_levels-requires
fit_levels-requires c =
    let d = (goal.at.fit_levels-requires c).After-len-p in
    levelable (s d).zs c.args.whole.now (ready d) c.len-p.ensures (lowered d _ c.shift.ensures)

pub returns-in_err-fit_levels : goal.returns-in_err-fit_levels
returns-in_err-fit_levels c =
    let d = (goal.at.returns-in_err-fit_levels c).After-len-p in
    let a = c.args in
    let e = c.fit_levels.ensures in
    let r = err_from_is_err_and c.from_residual.result c.from_residual.ensures.1 in
    rw (r.1, r.2)
    (run_refused (s d).zs a.whole.now (ready d) c.len-p.ensures (lowered d _ c.shift.ensures) e.levelled e.free.0 a.floats.now e.free.1 (ready d).floats_room
    a.lattice.now a.residual.now (ap check c.in_err-fit_levels.was))

pub overflow_add-to : goal.overflow_add-to
overflow_add-to c = omega (arith, ready (goal.at.overflow_add-to c).After-len-p, c.len-p.ensures, area_within c.args.shape.h c.controls-most.result)

pub offset_bounds-whole-from : goal.offset_bounds-whole-from
offset_bounds-whole-from c = omega (arith, ready (goal.at.offset_bounds-whole-from c).After-len-p, c.len-p.ensures, area_within c.args.shape.h c.controls-most.result)

pub slice_bounds-all_shifted-end : goal.slice_bounds-all_shifted-end
slice_bounds-all_shifted-end c =
    omega (arith, ready (goal.at.slice_bounds-all_shifted-end c).After-len-p, area_within c.args.shape.h c.controls-most.result, c.fit_levels.auto.whole, c.shift.auto.to)

pub all_shifted-requires : goal.all_shifted-requires
all_shifted-requires c =
    let d = (goal.at.all_shifted-requires c).After-len-p in
    let a = c.args in
    let l = lowered d _ c.shift.ensures in
    let e = c.fit_levels.ensures in (
      part_ranged (a.shape.h % 2 * most d) (most d) _ (lattice_room (s d).zs a.whole.now (ready d) c.len-p.ensures l e.levelled e.free.0)
          (lattice_ranged (s d).zs a.whole.now (ready d) c.len-p.ensures l e.levelled e.free.0 (ap check c.in_ok-fit_levels.was)),
      small limit tt (based d),
    )

pub returns-then-not-all_shifted : goal.returns-then-not-all_shifted
returns-then-not-all_shifted c =
    let d = (goal.at.returns-then-not-all_shifted c).After-len-p in
    let a = c.args in
    let e = c.fit_levels.ensures in
    final_refused (s d).zs a.whole.now (ready d) c.len-p.ensures (lowered d _ c.shift.ensures) e.levelled e.free.0 a.floats.now e.free.1 (ready d).floats_room
    a.lattice.now a.residual.now (based d).is (ap check c.in_ok-fit_levels.was) c.all_shifted.result c.all_shifted.ensures c.if-not-all_shifted.true

pub deliver-requires-clause-rooms : goal.deliver-requires-clause-rooms
deliver-requires-clause-rooms c =
    let d = (goal.at.deliver-requires-clause-rooms c).After-len-p in
    let q = c.requires.levelable in
    let e = c.fit_levels.ensures in
    let n = c.len-p.ensures in
    let room = whole_room (s d).zs c.args.whole.now (ready d) n (lowered d _ c.shift.ensures) e.levelled e.free.0 in
    ((ready d).most_fits, omega (arith, room, n), omega (arith, q.1, most_is d), omega (arith, q.2, n))

pub deliver-requires-clause-values_in_range : goal.deliver-requires-clause-values_in_range
deliver-requires-clause-values_in_range c =
    let d = (goal.at.deliver-requires-clause-values_in_range c).After-len-p in
    let e = c.fit_levels.ensures in (
      lattice_ranged (s d).zs c.args.whole.now (ready d) c.len-p.ensures (lowered d _ c.shift.ensures) e.levelled e.free.0 (ap check c.in_ok-fit_levels.was),
      small limit tt (based d),
    )

pub returns : goal.returns
returns c =
    let d = (goal.at.returns c).After-len-p in
    let a = c.args in
    let e = c.fit_levels.ensures in
    let cells = c.cells-cells.ensures in
    run_accepted (s d).zs a.whole.now (ready d) c.len-p.ensures (lowered d _ c.shift.ensures) e.levelled e.free.0 a.floats.now e.free.1 (ready d).floats_room
    a.lattice.now a.residual.now (based d).is (ap check c.in_ok-fit_levels.was) c.all_shifted.result c.all_shifted.ensures
    c.if-not-all_shifted.false cells.m_is cells.n_is c.deliver.ensures.lattice_after
    (c.deliver.ensures.residual_after ∙ ap (λ n. over (area (3 * most d) n c.fit_levels.new.whole) a.residual.now) c.len-p.ensures)
