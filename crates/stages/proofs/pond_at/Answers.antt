-- What a block adds to the sums of the heights before it makes up those of the heights up to the next.
use Rattle.std.proofs.Common.{rules, ◌≡◌, ℕ, ◌+◌, ◌-◌, ◌*◌, ◌/◌, ◌%◌, ◌≤◌, List, ◌++◌, length, get_or, take, drop, refl, sym, ap, ap₂, ◌∙◌, length-drop, length-append, drop-drop, drop_at, arith, to_z, of_z}
use Rattle.std.proofs.Math.Seq.{take-append_seam, take-length}
use Rattle.std.specs.Prelude.{ℤ, pos, nat_abs}
use Rattle.std.specs.Int.{w64}
use Rattle.std.specs.Slice.Iter.{chunks_exact_rest}
use Rattle.algebra.specs.Table.{area, get_d_area}
use Rattle.machine.specs.Held.{Held, itself, read, small}
use Rattle.rules.specs.Grid.{limit}
use Rattle.rules.specs.Storage.{depths}
use Rattle.rules.specs.Laws.Checks.{AllInRange, Part}
use Rattle.rules.proofs.Laws.Storage.{sum_most, depths_most, depths_part}
use Rattle.rules.specs.Laws.Stage.{wets}
use Rattle.rules.proofs.Laws.Stage.{wets_most}
use Rattle.stages.proofs.Parts.{wets_part}
use Rattle.stages.proofs.pond_at.Goals as goal
use Rattle.stages.proofs.pond_at.Goals.{In-Some, In-None}

-- ---- what a block adds, taken apart

low_part : (block d w : ℕ) → block ≡ d + w * 1_099_511_627_776 → d ≤ 512_000_000_000 → block % 1_099_511_627_776 ≡ d
low_part block d w e l = omega arith

high_part : (block d w : ℕ) → block ≡ d + w * 1_099_511_627_776 → d ≤ 512_000_000_000 → block / 1_099_511_627_776 ≡ w
high_part block d w e l = omega arith

-- the stage, by its bits, read back
abbrev held : (z : ℤ) → nat_abs z ≤ limit → Held (to_z w64 (of_z w64 z)) z limit
held z h = read tt (itself z limit h)

-- a block, 64 heights at most, from place i on
record Block (heights : List ℤ) (i : ℕ) (block : List ℤ) : Type 0 where
  is : block ≡ area i (length block) heights
  ends : i + length block ≤ length heights
  narrow : length block ≤ 64

module _ {heights : List ℤ} {i : ℕ} {block : List ℤ} (b : Block heights i block) (z : ℤ) (few : length heights ≤ 8_193 * 8_193) (all : AllInRange (length heights) heights) (size : nat_abs z ≤ limit) where
  abbrev stage : ℤ
  stage = to_z w64 (of_z w64 z)

  stage_size : nat_abs stage ≤ limit
  stage_size = small limit tt (held z size)

  block_part : Part i (length block) heights block
  block_part k l = ap (λ v. get_or v k (pos 0)) b.is ∙ get_d_area i (length block) heights k (pos 0) l

  block_in : AllInRange (length block) block
  block_in k l = rw (block_part k l) (all (i + k) (omega (arith, b.ends)))

  sum_fits : depths (i + length block) heights stage ≤ 537_001_992_000_000_000
  sum_fits = sum_most (i + length block) heights stage (omega (arith, b.ends, few)) stage_size (λ k l. all k (omega (arith, b.ends)))

  wet_fits : wets (i + length block) heights stage ≤ 8_193 * 8_193
  wet_fits = omega (arith, wets_most heights (i + length block) stage, b.ends, few)

  -- what `block_at` tells of it
  module _ {marked : ℕ} (told : marked ≡ depths (length block) block stage + wets (length block) block stage * 1_099_511_627_776) where
    deep : depths (length block) block stage ≤ 512_000_000_000
    deep = omega (arith, b.narrow, depths_most (length block) block stage stage_size block_in)

    sum_next : {sum : ℕ} → sum ≡ depths i heights stage → sum + marked % 1_099_511_627_776 ≡ depths (i + length block) heights stage
    sum_next e = ap₂ ◌+◌ e (low_part marked _ _ told deep) ∙ sym (depths_part i (length block) heights block stage block_part)

    wet_next : {wet : ℕ} → wet ≡ wets i heights stage → wet + marked / 1_099_511_627_776 ≡ wets (i + length block) heights stage
    wet_next e = ap₂ ◌+◌ e (high_part marked _ _ told deep) ∙ sym (wets_part i (length block) heights block stage block_part)

-- ---- the block of a turn, and what is left behind it

record Turn (heights rest block next : List ℤ) : Type 0 where
  few : length rest ≤ length heights
  at : rest ≡ drop (length heights - length rest) heights
  step : rest ≡ block ++ next
  wide : length block ≡ 64

module _ {heights rest block next : List ℤ} (t : Turn heights rest block next) where
  lengths : length rest ≡ 64 + length next
  lengths = ap length t.step ∙ length-append block next ∙ ap (λ k. k + length next) t.wide

  next_place : length heights - length next ≡ length heights - length rest + length block
  next_place = omega (arith, lengths, t.few, t.wide)

  block_of : Block heights (length heights - length rest) block
  unfolding area
  block_of = record {
    is = sym (take-append_seam block next) ∙ ap (take (length block)) (sym t.step ∙ t.at);
    ends = omega (arith, lengths, t.few, t.wide);
    narrow = omega (arith, t.wide);
  }

  next_is : next ≡ drop (length heights - length next) heights
  next_is =
      sym (drop_at block next (length block) refl)
      ∙ ap (drop (length block)) (sym t.step ∙ t.at)
      ∙ drop-drop (length block) (length heights - length rest) heights
      ∙ ap (λ k. drop k heights) (sym next_place)

-- the block of those that are left at the end
remainder : (heights rest : List ℤ) → rest ≡ drop (length heights - length heights % 64) heights → Block heights (length heights - length heights % 64) rest
unfolding area
remainder heights rest e =
    let many : length rest ≡ length heights % 64 = ap length e ∙ length-drop (length heights - length heights % 64) heights ∙ omega arith in
    record { is = sym (take-length rest) ∙ ap (take (length rest)) e; ends = omega (arith, many); narrow = omega (arith, many) }

remainder_ends : (heights rest : List ℤ) → rest ≡ drop (length heights - length heights % 64) heights → length heights - length heights % 64 + length rest ≡ length heights
remainder_ends heights rest e =
    let many : length rest ≡ length heights % 64 = ap length e ∙ length-drop (length heights - length heights % 64) heights ∙ omega arith in
    omega (arith, many)

turn : (c : In-Some) → Turn c.args.heights.now (chunks_exact_rest c.loop-block.block-iterator) c.in-Some.block.now (chunks_exact_rest c.next.new.self)
turn c =
    let p = c.loop-block.invariant in
    let s = c.in-Some.ensures.steps in
    record { few = p.few; at = p.rest; step = s.1.0; wide = s.1.1 ∙ p.size }

-- ---- what it adds up

none_passed : (heights rest : List ℤ) → rest ≡ heights → length heights - length rest ≡ 0
none_passed heights rest e = let many : length rest ≡ length heights = ap length e in omega arith

pub loop-block-init : goal.loop-block-init
unfolding depths wets
loop-block-init c =
    let heights = c.args.heights.now in
    let is : chunks_exact_rest c.into_iter-block-iterator.result ≡ heights =
    ap chunks_exact_rest c.into_iter-block-iterator.ensures.into_iter_gives ∙ c.chunks_exact-blocks.ensures.rest in
    let none = none_passed heights _ is in
    record { size = search rules; few = rw is (omega arith); whole_blocks = rw is refl; rest = rw none is; sum = rw none refl; wet = rw none refl }

pub loop-block-preserved : goal.loop-block-preserved
loop-block-preserved c =
    let a = c.args in
    let p = c.loop-block.invariant in
    let q = c.requires in
    let t = turn (goal.at.loop-block-preserved c).In-Some in
    record {
      size = search rules;
      few = omega (arith, lengths t, t.few);
      whole_blocks = omega (arith, lengths t, p.whole_blocks);
      rest = next_is t;
      sum = sum_next (block_of t) a.stage q.0 q.1 q.2 c.block_at-marked.ensures p.sum ∙ ap (λ n. depths n a.heights.now (to_z w64 (of_z w64 a.stage))) (sym (next_place t));
      wet = wet_next (block_of t) a.stage q.0 q.1 q.2 c.block_at-marked.ensures p.wet ∙ ap (λ n. wets n a.heights.now (to_z w64 (of_z w64 a.stage))) (sym (next_place t));
    }

-- where no whole block is left, the remainder goes on there
module _ (c : In-None) where
  abbrev rest_block : Block c.args.heights.now (length c.args.heights.now - length c.args.heights.now % 64) c.remainder.result.now
  rest_block = remainder c.args.heights.now c.remainder.result.now (c.remainder.ensures ∙ c.chunks_exact-blocks.ensures.remainder)

  place : length c.args.heights.now - length (chunks_exact_rest c.loop-block.block-iterator) ≡ length c.args.heights.now - length c.args.heights.now % 64
  place =
      let p = c.loop-block.invariant in
      let s = c.in-None.ensures.steps in
      omega (arith, p.whole_blocks, p.size, s.1.0)

  whole : length c.args.heights.now - length c.args.heights.now % 64 + length c.remainder.result.now ≡ length c.args.heights.now
  whole = remainder_ends c.args.heights.now c.remainder.result.now (c.remainder.ensures ∙ c.chunks_exact-blocks.ensures.remainder)

  sum_most_lem : depths (length c.args.heights.now) c.args.heights.now (to_z w64 (of_z w64 c.args.stage)) ≤ 537_001_992_000_000_000
  sum_most_lem = let q = c.requires in rw whole at (sum_fits rest_block c.args.stage q.0 q.1 q.2)

  sum_is : c.loop-block.sum + c.block_at-rest.result % 1_099_511_627_776 ≡ depths (length c.args.heights.now) c.args.heights.now (to_z w64 (of_z w64 c.args.stage))
  sum_is =
      let q = c.requires in
      sum_next rest_block c.args.stage q.0 q.1 q.2 c.block_at-rest.ensures (c.loop-block.invariant.sum ∙ ap (λ n. depths n c.args.heights.now (to_z w64 (of_z w64 c.args.stage))) place)
      ∙ ap (λ n. depths n c.args.heights.now (to_z w64 (of_z w64 c.args.stage))) whole

  wet_is : c.loop-block.wet + c.block_at-rest.result / 1_099_511_627_776 ≡ wets (length c.args.heights.now) c.args.heights.now (to_z w64 (of_z w64 c.args.stage))
  wet_is =
      let q = c.requires in
      wet_next rest_block c.args.stage q.0 q.1 q.2 c.block_at-rest.ensures (c.loop-block.invariant.wet ∙ ap (λ n. wets n c.args.heights.now (to_z w64 (of_z w64 c.args.stage))) place)
      ∙ ap (λ n. wets n c.args.heights.now (to_z w64 (of_z w64 c.args.stage))) whole

pub returns-clause-sum_of_depths : goal.returns-clause-sum_of_depths
returns-clause-sum_of_depths c = sum_is (goal.at.returns-clause-sum_of_depths c).In-None ∙ ap (depths (length c.args.heights.now) c.args.heights.now) (held c.args.stage c.requires.2).is

pub returns-clause-wet_count : goal.returns-clause-wet_count
returns-clause-wet_count c = wet_is (goal.at.returns-clause-wet_count c).In-None ∙ ap (wets (length c.args.heights.now) c.args.heights.now) (held c.args.stage c.requires.2).is

-- ---- what its steps ask

pub overflow_add-sum : goal.overflow_add-sum
overflow_add-sum c =
    let a = c.args in
    let q = c.requires in
    let t = turn (goal.at.overflow_add-sum c).In-Some in
    omega (arith, sum_next (block_of t) a.stage q.0 q.1 q.2 c.block_at-marked.ensures c.loop-block.invariant.sum, sum_fits (block_of t) a.stage q.0 q.1 q.2)

pub overflow_add-wet : goal.overflow_add-wet
overflow_add-wet c =
    let a = c.args in
    let q = c.requires in
    let t = turn (goal.at.overflow_add-wet c).In-Some in
    omega (arith, wet_next (block_of t) a.stage q.0 q.1 q.2 c.block_at-marked.ensures c.loop-block.invariant.wet, wet_fits (block_of t) a.stage q.0 q.1 q.2)

pub overflow_add-result : goal.overflow_add-result
overflow_add-result c =
    let n = (goal.at.overflow_add-result c).In-None in
    omega (arith, sum_is n, sum_most_lem n)

pub overflow_add-result-2 : goal.overflow_add-result-2
overflow_add-result-2 c =
    let n = (goal.at.overflow_add-result-2 c).In-None in
    omega (arith, wet_is n, wets_most c.args.heights.now (length c.args.heights.now) (to_z w64 (of_z w64 c.args.stage)), c.requires.0)
