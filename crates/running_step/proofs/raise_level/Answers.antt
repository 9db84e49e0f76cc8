-- Level lattice 0 is copied, and of any later level the running lattice before it is refined and added to.
use Rattle.std.proofs.Common.{◌≡◌, suc, ◌-◌, ◌≤◌, arith, length-take}
use Rattle.scratch.specs.Scratch.{area_within}
use Rattle.running_step.proofs.Raising.{count_few, first_judged, copied_free, few_before, few_refined, before_ranged, as_many, addable, sums_judged, added_free}
use Rattle.running_step.proofs.raise_level.Goals as goal
use Rattle.running_step.proofs.raise_level.Goals.{After-controls-count, Else-k-eq0, After-add}

few : (c : After-controls-count) → c.controls-count.result ≤ c.args.most
few c = count_few c.requires.0.2 c.requires.0.3 c.requires.1 c.controls-count.ensures

-- ---- level 0

pub overflow_add-level : goal.overflow_add-level
overflow_add-level c = omega (arith, few (goal.at.overflow_add-level c).After-controls-count)

pub copy_within-requires-clause-in_bounds : goal.copy_within-requires-clause-in_bounds
copy_within-requires-clause-in_bounds c = omega (arith, few (goal.at.copy_within-requires-clause-in_bounds c).After-controls-count)

pub copy_within-requires-clause-dest_in_bounds : goal.copy_within-requires-clause-dest_in_bounds
copy_within-requires-clause-dest_in_bounds c = omega (arith, few (goal.at.copy_within-requires-clause-dest_in_bounds c).After-controls-count)

pub returns-then-k-eq0 : goal.returns-then-k-eq0
returns-then-k-eq0 c =
    let copied = c.copy_within.ensures.after in
    let counted = c.controls-count.ensures in
    record {
      second_half = λ a s z l. first_judged z l c.requires.1 counted c.if-k-eq0.true copied;
      free = copied_free c.requires.0.2 c.requires.0.3 c.requires.1 counted c.if-k-eq0.true copied;
    }

-- ---- where there is a level before

later : (c : Else-k-eq0) → c.args.k ≡ suc (c.args.k - 1)
later c = let h = c.if-k-eq0.false in omega arith

pub refine_turn-requires-clause-room : goal.refine_turn-requires-clause-room
refine_turn-requires-clause-room c =
    let next = later (goal.at.refine_turn-requires-clause-room c).Else-k-eq0 in
    let r = c.requires in
    let counted = c.controls-count.ensures in
    (few_before r.0.2 r.0.3 r.1 counted (c.args.k - 1) next, few_refined r.0.2 r.0.3 r.1 counted (c.args.k - 1) next, omega arith)

pub refine_turn-requires-clause-values_in_range : goal.refine_turn-requires-clause-values_in_range
refine_turn-requires-clause-values_in_range c =
    before_ranged c.requires.0.2 c.requires.0.3 c.requires.1 c.controls-count.ensures (c.args.k - 1) (later (goal.at.refine_turn-requires-clause-values_in_range c).Else-k-eq0)

pub overflow_add-end : goal.overflow_add-end
overflow_add-end c =
    let few_here = few (goal.at.overflow_add-end c).After-controls-count in
    omega (arith, area_within c.args.k c.args.most, few_here)

pub slice_bounds-add-end : goal.slice_bounds-add-end
slice_bounds-add-end c =
    let few_here = few (goal.at.slice_bounds-add-end c).After-controls-count in
    omega (arith, few_here, c.refine_turn.auto.whole, c.split_at_mut-running.ensures.back_len, c.requires.1)

pub slice_bounds-add-end-2 : goal.slice_bounds-add-end-2
slice_bounds-add-end-2 c =
    let few_here = few (goal.at.slice_bounds-add-end-2 c).After-controls-count in
    simp length-take (omega (arith, few_here, c.refine_turn.auto.whole, c.split_at_mut-running.ensures.back_len, c.requires.1))

pub slice_bounds-add-end-3 : goal.slice_bounds-add-end-3
slice_bounds-add-end-3 c =
    let few_here = few (goal.at.slice_bounds-add-end-3 c).After-controls-count in
    omega (arith, area_within c.args.k c.args.most, few_here, c.split_at_mut-running.ensures.front_len)

pub add-requires-clause-as_many : goal.add-requires-clause-as_many
add-requires-clause-as_many c =
    let r = c.requires in
    let s = c.split_at_mut-running in
    as_many r.0.2 r.0.3 r.1 c.controls-count.ensures (c.args.k - 1) (later (goal.at.add-requires-clause-as_many c).Else-k-eq0) c.refine_turn.ensures s.result.0.now s.result.1.now s.ensures.value s.ensures.front_len

pub add-requires-clause-values_in_range : goal.add-requires-clause-values_in_range
add-requires-clause-values_in_range c =
    let r = c.requires in
    let s = c.split_at_mut-running in
    addable r.0.2 r.0.3 r.1 c.controls-count.ensures (c.args.k - 1) (later (goal.at.add-requires-clause-values_in_range c).Else-k-eq0) c.refine_turn.ensures s.result.0.now s.result.1.now s.ensures.value s.ensures.front_len

pub returns-then-not-add : goal.returns-then-not-add
returns-then-not-add c =
    let r = c.requires in
    let s = c.split_at_mut-running in
    let next = later (goal.at.returns-then-not-add c).Else-k-eq0 in
    let counted = c.controls-count.ensures in
    record {
      second_half = λ a t z l. sums_judged z l r.1 counted (c.args.k - 1) next c.refine_turn.ensures s.result.0.now s.result.1.now s.ensures.value s.ensures.front_len c.add.ensures c.if-not-add.true;
      free = added_free r.0.2 r.0.3 r.1 counted (c.args.k - 1) next c.refine_turn.ensures s.result.0.now s.result.1.now s.ensures.value s.ensures.front_len c.add.ensures;
    }

pub returns : goal.returns
returns c =
    let r = c.requires in
    let s = c.split_at_mut-running in
    let next = later (goal.at.returns c).Else-k-eq0 in
    let counted = c.controls-count.ensures in
    record {
      second_half = λ a t z l. sums_judged z l r.1 counted (c.args.k - 1) next c.refine_turn.ensures s.result.0.now s.result.1.now s.ensures.value s.ensures.front_len c.add.ensures c.if-not-add.false;
      free = added_free r.0.2 r.0.3 r.1 counted (c.args.k - 1) next c.refine_turn.ensures s.result.0.now s.result.1.now s.ensures.value s.ensures.front_len c.add.ensures;
    }
