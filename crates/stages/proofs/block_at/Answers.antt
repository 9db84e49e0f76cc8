use Rattle.std.proofs.Common.{◌≡◌, ℕ, ◌+◌, ◌*◌, ◌^◌, ◌≤◌, ◌<◌, List, length, get_or, ap, ◌∙◌, refl, min, arith, to_z, of_z}
use Rattle.std.specs.Prelude.{ℤ, pos, nat_abs}
use Rattle.std.specs.Int.{w64}
use Rattle.machine.specs.Held.{Held, itself, read, small}
use Rattle.rules.specs.Grid.{limit}
use Rattle.rules.specs.Storage.{depth, depths}
use Rattle.rules.specs.Laws.Checks.{AllInRange}
use Rattle.rules.proofs.Laws.Storage.{depth_most, depths_most}
use Rattle.rules.specs.Laws.Stage.{wets}
use Rattle.rules.proofs.Laws.Stage.{wets_most}
use Rattle.stages.proofs.Parts.{depths_next, wets_next}
use Rattle.stages.proofs.block_at.Goals as goal

-- a number in range, by its bits, read back
abbrev held : (z : ℤ) → nat_abs z ≤ limit → Held (to_z w64 (of_z w64 z)) z limit
held z h = read tt (itself z limit h)

-- node i of a block, at the stage z
module _ (block : List ℤ) (z : ℤ) (few : length block ≤ 64) (all : AllInRange (length block) block) (size : nat_abs z ≤ limit) (i : ℕ) (listed : i < length block) where
  abbrev stage : ℤ
  stage = to_z w64 (of_z w64 z)

  abbrev height : ℤ
  height = get_or block i (pos 0)

  abbrev total : ℕ → ℕ
  total i = depths i block stage + wets i block stage * 1_099_511_627_776

  total_fits : total i ≤ 70_900_000_000_000
  total_fits = omega (arith, few, listed, depths_most i block stage (small limit tt (held z size)) (λ k l. all k (omega arith)), wets_most block i stage)

  module _ {marked : ℕ} (is : let d = depth stage (to_z w64 (of_z w64 height)) in marked ≡ d + min 1 d * 1_099_511_627_776) where
    marked_is : let d = depth stage height in marked ≡ d + min 1 d * 1_099_511_627_776
    marked_is = is ∙ ap (λ h. depth stage h + min 1 (depth stage h) * 1_099_511_627_776) (held height (all i listed)).is

    grown : {sum : ℕ} → sum ≡ total i → sum + marked ≡ total (i + 1)
    grown e = omega (arith, e, marked_is, depths_next block stage i, wets_next block stage i)

    fits : {sum : ℕ} → sum ≡ total i → sum + marked < 2 ^ 64
    fits e = omega (arith, e, total_fits, marked_is, depth_most stage height (small limit tt (held z size)) (all i listed))

pub loop-height-init : goal.loop-height-init
unfolding depths wets
loop-height-init c = refl

pub loop-height-preserved : goal.loop-height-preserved
loop-height-preserved c =
    let q = c.requires in
    grown c.args.block.now c.args.stage q.0 q.1 q.2 c.loop-height.height-index c.loop-height-test.true c.marked_depth-sum.ensures c.loop-height.invariant

pub overflow_add-sum : goal.overflow_add-sum
overflow_add-sum c =
    let q = c.requires in
    omega (arith, fits c.args.block.now c.args.stage q.0 q.1 q.2 c.loop-height.height-index c.loop-height-test.true c.marked_depth-sum.ensures c.loop-height.invariant)
