-- The sums settle to level lattice k, which is laid in its place, and its heights are taken from the residuals.
use Rattle.std.proofs.Common.{◌≡◌, refl, Bool, true, List, ◌++◌, ℕ, ◌+◌, ◌-◌, ◌*◌, ◌≤◌, ℤ, length, take, drop, arith}
use Rattle.algebra.specs.Table.{Free, free_length, free_again}
use Rattle.rules.specs.Answers.{quotient, residual}
use Rattle.rules.specs.Fit.{Shape, Survey, residuals, quotient_check, residual_check}
use Rattle.answers.specs.Cause.{ok_check}
use Rattle.fit_steps.specs.Steps.{Written}
use Rattle.lowering.specs.Lowered.{less_heights}
use Rattle.scratch.specs.Scratch.{survey_with, LevelReady, Halfway, Judged, FirstHalf}
use Rattle.scratch.specs.Judging.{first_refused, then_judged}
use Rattle.scratch.proofs.Split.{put}
use Rattle.residual_step.proofs.Settling.{count_few, lent_is, sums_free, level_free, lattices_long, quotients_judged, level_part_ranged, residuals_ranged, lowered_free, residuals_judged}
use Rattle.residual_step.proofs.settle_level.Goals as goal
use Rattle.residual_step.proofs.settle_level.Goals.{After-controls-count, After-settle_all}

few : (c : After-controls-count) → c.controls-count.result ≤ c.args.most
few c = count_few c.requires.2 c.controls-count.ensures

-- ---- what is known behind each call

module _ (c : After-settle_all) where
  abbrev all : ℕ
  all = 3 * c.args.most + length c.args.points.now.xs.now

  abbrev with : List ℤ → Survey
  with zs = survey_with c.args.points.now zs

  abbrev At : Shape → List ℤ → Type 0
  At a zs = LevelReady a (with zs) c.args.most c.args.k c.args.grid.cells.m c.args.grid.cells.n c.args.grid.e c.args.whole.now (length c.args.floats.now)

  abbrev count : ℕ
  count = c.controls-count.result

  abbrev front : List ℤ
  front = c.split_at_mut-lattices.result.0.now

  abbrev back : List ℤ
  back = c.split_at_mut-lattices.result.1.now

  abbrev lattices : List ℤ
  lattices = put (2 * c.args.most) (2 * c.args.most + count - 2 * c.args.most) c.settle_all.new.level front

  lent : (a : Shape) (zs : List ℤ) → At a zs → take c.len-p.result back ≡ residuals a (with zs) c.args.k
  lent a zs b = lent_is b c.controls-count.ensures front back c.split_at_mut-lattices.ensures.value c.split_at_mut-lattices.ensures.front_len c.len-p.ensures

  quotients : {t : Bool} → c.settle_all.result ≡ t → (a : Shape) (zs : List ℤ) → At a zs
      → Judged (quotient_check a (with zs) c.args.k) (Halfway a (with zs) c.args.most c.args.k c.args.k) (ok_check t (quotient c.args.k)) (lattices ++ back)
  quotients e a zs b =
      let s = c.split_at_mut-lattices.ensures in
      quotients_judged b c.controls-count.ensures (lent a zs b) c.args.floats.now c.gather.ensures front back s.value s.front_len c.settle_all.ensures e

  now_free : Free 0 all c.args.whole.now (lattices ++ back)
  now_free =
      let s = c.split_at_mut-lattices.ensures in
      let r = c.requires in
      level_free r.2 c.controls-count.ensures (lent r.0 r.1 r.2) c.args.floats.now c.gather.ensures front back s.value s.front_len c.settle_all.ensures

  floats_free : Free 0 (2 * c.args.most) c.args.floats.now c.gather.new.sums
  floats_free =
      let r = c.requires in
      sums_free r.2 c.controls-count.ensures (lent r.0 r.1 r.2) c.args.floats.now c.gather.ensures r.2.floats_room

  long : length lattices ≡ 3 * c.args.most
  long =
      let s = c.split_at_mut-lattices.ensures in
      let r = c.requires in
      lattices_long r.2 c.controls-count.ensures (lent r.0 r.1 r.2) c.args.floats.now c.gather.ensures front back s.value s.front_len c.settle_all.ensures

  room : all ≤ length (lattices ++ back)
  room = let p = c.requires.2 in rw (free_length now_free (omega (arith, p))) p.whole_room

  module _ (fine : c.settle_all.result ≡ true) where
    halfway : (a : Shape) (zs : List ℤ) → At a zs → Halfway a (with zs) c.args.most c.args.k c.args.k (lattices ++ back)
    halfway a zs b = (quotients fine a zs b).leaves refl

    -- what `lower` finds and leaves
    module _ {ok : Bool} {v : List ℤ}
        (w : Written ok 0 (length c.args.points.now.xs.now) (less_heights c.args.grid.cells.m c.args.grid.cells.n c.args.grid.e (take (2 * c.args.most + count - 2 * c.args.most) (drop (2 * c.args.most) lattices)) c.args.points.now.xs.now c.args.points.now.ys.now (take c.len-p.result back)) (take c.len-p.result back) v) where
      abbrev last : List ℤ
      last = lattices ++ (v ++ drop c.len-p.result back)

      residuals_found : {t : Bool} → ok ≡ t → (a : Shape) (zs : List ℤ) → At a zs → FirstHalf a (with zs) c.args.most c.args.k (ok_check t (residual c.args.k)) last
      residuals_found e a zs b =
          then_judged (quotients fine a zs b) refl (residuals_judged b c.controls-count.ensures lattices back long (halfway a zs b) room c.len-p.ensures w e)

      whole_free : Free 0 all c.args.whole.now last
      whole_free =
          let r = c.requires in
          free_again (omega (arith, r.2)) now_free (lowered_free r.2 c.controls-count.ensures lattices back long (halfway r.0 r.1 r.2) room c.len-p.ensures w)

-- ---- the goals

pub overflow_add-end : goal.overflow_add-end
overflow_add-end c = omega (arith, few (goal.at.overflow_add-end c).After-controls-count, c.requires.2)

pub gather-requires-clause-room : goal.gather-requires-clause-room
gather-requires-clause-room c =
    omega (arith, few (goal.at.gather-requires-clause-room c).After-controls-count, c.controls-count.ensures, c.requires.2)

pub slice_bounds-settle_all-end : goal.slice_bounds-settle_all-end
slice_bounds-settle_all-end c =
    omega (arith, few (goal.at.slice_bounds-settle_all-end c).After-controls-count, c.split_at_mut-lattices.ensures.front_len)

pub returns-then-not-settle_all : goal.returns-then-not-settle_all
returns-then-not-settle_all c =
    let d = (goal.at.returns-then-not-settle_all c).After-settle_all in
    record {
      first_half = λ a zs b. first_refused (quotients d c.if-not-settle_all.true a zs b) (residual_check a (with d zs) c.args.k) refl;
      free = (now_free d, floats_free d);
    }

pub lower-requires-clause-level_ranged : goal.lower-requires-clause-level_ranged
lower-requires-clause-level_ranged c =
    let d = (goal.at.lower-requires-clause-level_ranged c).After-settle_all in
    let r = c.requires in
    level_part_ranged r.2 c.controls-count.ensures (lattices d) (back d) (long d) (halfway d c.if-not-settle_all.false r.0 r.1 r.2) (room d) c.len-p.ensures

pub lower-requires-clause-residuals_ranged : goal.lower-requires-clause-residuals_ranged
lower-requires-clause-residuals_ranged c =
    let d = (goal.at.lower-requires-clause-residuals_ranged c).After-settle_all in
    let r = c.requires in
    residuals_ranged r.2 c.controls-count.ensures (lattices d) (back d) (long d) (halfway d c.if-not-settle_all.false r.0 r.1 r.2) (room d) c.len-p.ensures

pub returns-then-not-lower : goal.returns-then-not-lower
returns-then-not-lower c =
    let d = (goal.at.returns-then-not-lower c).After-settle_all in
    let fine = c.if-not-settle_all.false in
    record { first_half = residuals_found d fine c.lower.ensures c.if-not-lower.true; free = (whole_free d fine c.lower.ensures, floats_free d) }

pub returns : goal.returns
returns c =
    let d = (goal.at.returns c).After-settle_all in
    let fine = c.if-not-settle_all.false in
    record { first_half = residuals_found d fine c.lower.ensures c.if-not-lower.false; free = (whole_free d fine c.lower.ensures, floats_free d) }
