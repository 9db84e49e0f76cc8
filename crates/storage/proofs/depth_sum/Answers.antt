use Rattle.std.proofs.Common.{◌≡◌, ℕ, ◌+◌, ◌*◌, ◌≤◌, ◌<◌, List, length, get_or, refl, sym, ap, ap₂, ◌∙◌, add-one, arith, to_z, of_z}
use Rattle.std.specs.Prelude.{ℤ, pos, unsigned_abs}
use Rattle.std.specs.Int.{w64}
use Rattle.machine.specs.Held.{Held, itself, read, small}
use Rattle.rules.specs.Grid.{limit}
use Rattle.rules.specs.Storage as rule
use Rattle.rules.specs.Laws.Checks.{AllInRange}
use Rattle.rules.proofs.Laws.Storage.{depth_most, sum_most}
use Rattle.storage.proofs.depth_sum.Goals as goal

-- a number in range, by its bits, read back
abbrev held : (z : ℤ) → unsigned_abs z ≤ limit → Held (to_z w64 (of_z w64 z)) z limit
held z h = read tt (itself z limit h)

-- ---- the numbers of a turn

module _ (heights : List ℤ) (z : ℤ) (few : length heights ≤ 8_193 * 8_193) (ranged : AllInRange (length heights) heights) (stage_size : unsigned_abs z ≤ limit) (i : ℕ) (listed : i < length heights) where
  abbrev stage : ℤ
  stage = to_z w64 (of_z w64 z)

  abbrev height : ℤ
  height = get_or heights i (pos 0)

  sum_fits : rule.depths i heights stage ≤ 537_001_992_000_000_000
  sum_fits = sum_most i heights stage (omega (arith, few, listed)) (small limit tt (held z stage_size)) (λ k l. ranged k (omega (arith, l, listed)))

  -- the depth of the turn
  module _ {d : ℕ} (is : d ≡ rule.depth stage (to_z w64 (of_z w64 height))) where
    depth_is : d ≡ rule.depth stage height
    depth_is = is ∙ ap (rule.depth stage) (held height (ranged i listed)).is

    depth_fits : d ≤ 8_000_000_000
    depth_fits = rw depth_is (depth_most stage height (small limit tt (held z stage_size)) (ranged i listed))

-- ---- what it adds up

pub loop-height-init : goal.loop-height-init
unfolding rule.depths
loop-height-init c = refl

pub loop-height-preserved : goal.loop-height-preserved
unfolding rule.depths
loop-height-preserved c =
    let l = c.loop-height in
    let a = c.args in
    let heights = a.heights.now in
    let r = c.requires in
    ap₂ ◌+◌ l.invariant (depth_is heights a.stage r.0 r.1 r.2 l.height-index c.loop-height-test.true c.depth-sum.ensures) ∙ ap (λ n. rule.depths n heights (to_z w64 (of_z w64 a.stage))) (sym (add-one l.height-index))

-- ---- what its steps ask

pub overflow_add-sum : goal.overflow_add-sum
overflow_add-sum c =
    let l = c.loop-height in
    let a = c.args in
    let heights = a.heights.now in
    let r = c.requires in
    omega (arith, sum_fits heights a.stage r.0 r.1 r.2 l.height-index c.loop-height-test.true, depth_fits heights a.stage r.0 r.1 r.2 l.height-index c.loop-height-test.true c.depth-sum.ensures)
