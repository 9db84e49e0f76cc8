-- One of the two areas is lent, and the other is written from its start on.
use Rattle.std.proofs.Common.{◌≡◌, ap, ◌∙◌, List, ◌++◌, ℕ, ◌+◌, ◌-◌, ◌*◌, ◌%◌, ◌≤◌, arith, ℤ, length, take}
use Rattle.algebra.specs.Table.{over, area, length_area}
use Rattle.rules.specs.Grid.{controls, control, store}
use Rattle.rules.specs.Refinement.{refined}
use Rattle.rules.specs.Laws.Checks.{AllInRange}
use Rattle.rules.proofs.Laws.Surface.{length_store}
use Rattle.scratch.proofs.Split.{front_part, back_part, front_over, back_over}
use Rattle.running_step.proofs.refine_turn.Goals as goal
use Rattle.running_step.proofs.refine_turn.Goals.{Then-k-eq0, Else-k-eq0}

-- what is asked of a part that is lent, where it is the area at n
lent_ready : (m n at : ℕ) (whole : List ℤ) {part : List ℤ} → part ≡ area at (controls m n) whole → at + controls m n ≤ length whole
    → AllInRange (controls m n) (area at (controls m n) whole) → (controls m n ≤ length part) × AllInRange (controls m n) part
lent_ready m n at whole is room ranged = rw is (rw (length_area at (controls m n) whole room) (omega arith), ranged)

module _ (c : Then-k-eq0) where
  from_odd : (c.args.k - 1) % 2 * c.args.most ≡ c.args.most
  from_odd = let p : (c.args.k - 1) % 2 ≡ 1 = omega arith in rw p (omega arith)

  odd_lent : take c.controls-before.result c.split_at_mut-even.result.1.now ≡ area c.args.most (controls c.args.half.m c.args.half.n) c.args.whole.now
  odd_lent =
      let s = c.split_at_mut-even in
      back_part c.args.whole.now s.result.0.now s.result.1.now s.ensures.value c.args.most c.controls-before.result s.ensures.front_len
      ∙ ap (λ k. area c.args.most k c.args.whole.now) c.controls-before.ensures

module _ (c : Else-k-eq0) where
  from_even : (c.args.k - 1) % 2 * c.args.most ≡ 0
  from_even = let p : (c.args.k - 1) % 2 ≡ 0 = omega arith in rw p (omega arith)

  even_lent : take c.controls-before.result c.split_at_mut-even.result.0.now ≡ area 0 (controls c.args.half.m c.args.half.n) c.args.whole.now
  even_lent =
      let s = c.split_at_mut-even in
      front_part c.args.whole.now s.result.0.now s.result.1.now s.ensures.value 0 c.controls-before.result (omega arith)
      ∙ ap (λ k. area 0 k c.args.whole.now) c.controls-before.ensures

-- the refinement of a lattice, as it is stored
abbrev finer : ℕ → ℕ → List ℤ → List ℤ
finer m n lattice = store (2 * m) (2 * n) (refined (control m lattice))

-- ---- the goals

pub refine_within-requires : goal.refine_within-requires
refine_within-requires c =
    let d = (goal.at.refine_within-requires c).Then-k-eq0 in
    let q = c.requires in
    let s = c.split_at_mut-even.ensures in
    let p = lent_ready c.args.half.m c.args.half.n c.args.most c.args.whole.now (odd_lent d) (omega (arith, q.room)) (rw (from_odd d) at q.values_in_range) in
    record { few = (q.cells.1, q.cells.2); stored = p.0; ranged = p.1; room = omega (arith, q.room, s.front_len) }

pub refine_within-requires-else-k-eq0 : goal.refine_within-requires-else-k-eq0
refine_within-requires-else-k-eq0 c =
    let d = (goal.at.refine_within-requires-else-k-eq0 c).Else-k-eq0 in
    let q = c.requires in
    let s = c.split_at_mut-even.ensures in
    let p = lent_ready c.args.half.m c.args.half.n 0 c.args.whole.now (even_lent d) (omega (arith, q.room)) (rw (from_even d) at q.values_in_range) in
    record { few = (q.cells.1, q.cells.2); stored = p.0; ranged = p.1; room = omega (arith, q.room, s.back_len) }

pub returns-then-k-eq0 : goal.returns-then-k-eq0
returns-then-k-eq0 c =
    let d = (goal.at.returns-then-k-eq0 c).Then-k-eq0 in
    let a = c.args in
    let h = a.half in
    let s = c.split_at_mut-even in
    let r = finer h.m h.n (area a.most (controls h.m h.n) a.whole.now) in
    let to : a.k % 2 * a.most ≡ 0 = rw c.if-k-eq0.true (omega arith) in
    rw (to, from_odd d)
    (ap (λ l. l ++ s.result.1.now) (c.refine_within.ensures ∙ ap (λ l. over (finer h.m h.n l) s.result.0.now) (odd_lent d))
    ∙ front_over a.whole.now s.result.0.now s.result.1.now s.ensures.value r (rw (length_store (2 * h.m) (2 * h.n) (refined (control h.m (area a.most (controls h.m h.n) a.whole.now)))) (omega (arith, c.requires.room, s.ensures.front_len))))

pub returns-else-k-eq0 : goal.returns-else-k-eq0
returns-else-k-eq0 c =
    let d = (goal.at.returns-else-k-eq0 c).Else-k-eq0 in
    let a = c.args in
    let h = a.half in
    let s = c.split_at_mut-even in
    let r = finer h.m h.n (area 0 (controls h.m h.n) a.whole.now) in
    let odd : a.k % 2 ≡ 1 = omega arith in
    let to : a.k % 2 * a.most ≡ a.most = rw odd (omega arith) in
    rw (to, from_even d)
    (ap (λ l. s.result.0.now ++ l) (c.refine_within-else-k-eq0.ensures ∙ ap (λ l. over (finer h.m h.n l) s.result.1.now) (even_lent d))
    ∙ back_over a.whole.now s.result.0.now s.result.1.now s.ensures.value r a.most s.ensures.front_len)
