-- What has passed up to a block, and what the block adds, make up what has passed up to the next.
use Rattle.std.proofs.Common.{rules, ◌≡◌, ℕ, ◌+◌, ◌*◌, ◌≤◌, min, List, length, get_or, drop, refl, sym, ap, ap₂, ◌∙◌, arith, to_z, of_z}
use Rattle.std.proofs.Math.Option.{none, some}
use Rattle.std.specs.Prelude.{ℤ, pos, unsigned_abs}
use Rattle.std.specs.Int.{w64}
use Rattle.algebra.specs.Table.{get_d_area}
use Rattle.machine.specs.Held.{Held, itself, read, small}
use Rattle.rules.specs.Grid.{limit}
use Rattle.rules.specs.Answers.{range, Check, first_of, range_check}
use Rattle.rules.specs.Storage.{depths, heights_check}
use Rattle.rules.specs.Laws.Checks.{AllInRange, Part}
use Rattle.rules.proofs.Laws.Checks.{then_none, range_check_size, range_check_part, range_check_longer, none_answer, some_answer}
use Rattle.rules.proofs.Laws.Storage.{sum_most, place_most, depths_part}
use Rattle.std.specs.Iterator.Adapters.{enumerate_count, enumerate_source}
use Rattle.std.specs.Slice.Iter.{chunks_rest}
use Rattle.storage.proofs.Chunks.{Chunk, chunk, chunk_ends, chunk_is, this_place, next_place, next_is, all_passed}
use Rattle.storage.proofs.checked_sum.Goals as goal
use Rattle.storage.proofs.checked_sum.Goals.{In-Some}

-- ---- block b, with no height before it out of range

module _ {heights : List ℤ} {b : ℕ} {block next : List ℤ} (c : Chunk heights b block next) (few : length heights ≤ 8_193 * 8_193)
    (before : heights_check (min (64 * b) (length heights)) heights ≡ none) where
  block_part : Part (64 * b) (length block) heights block
  block_part k l = ap (λ v. get_or v k (pos 0)) (chunk_is c) ∙ get_d_area (64 * b) (length block) heights k (pos 0) l

  -- what the scan of the block tells
  abbrev Scan : Check → Type 0
  Scan found = range_check (length block) block (λ k. range (64 * b + k + 1)) ≡ found

  with_block : heights_check (64 * b + length block) heights ≡ range_check (length block) block (λ k. range (64 * b + k + 1))
  unfolding heights_check
  with_block =
      range_check_part (64 * b) (length block) heights block (λ j. range (j + 1)) block_part
      ∙ then_none _ _ (ap (λ n. heights_check n heights) (sym (this_place c)) ∙ before)

  -- a height of the block is out of range
  module _ (k : ℕ) (out : Scan (some (range (64 * b + k + 1)))) where
    out_is : heights_check (length heights) heights ≡ some (range (64 * b + k + 1))
    unfolding heights_check
    out_is = range_check_longer (64 * b + length block) (length heights) heights (λ j. range (j + 1)) _ (chunk_ends c) (with_block ∙ out)

    place_fits : 64 * b + k + 1 ≤ 8_193 * 8_193
    place_fits = omega (arith, place_most (length heights) heights _ out_is, few)

  module _ (passed : Scan none) where
    block_in : AllInRange (length block) block
    block_in = range_check_size (length block) block _ passed

    all_in : heights_check (min (64 * (b + 1)) (length heights)) heights ≡ none
    all_in = ap (λ n. heights_check n heights) (next_place c) ∙ with_block ∙ passed

    module _ (stage : ℤ) where
      grown : {sum more : ℕ} → sum ≡ depths (min (64 * b) (length heights)) heights stage → more ≡ depths (length block) block stage
          → sum + more ≡ depths (min (64 * (b + 1)) (length heights)) heights stage
      grown p q =
          ap₂ ◌+◌ (p ∙ ap (λ n. depths n heights stage) (this_place c)) q
          ∙ sym (depths_part (64 * b) (length block) heights block stage block_part)
          ∙ ap (λ n. depths n heights stage) (sym (next_place c))

      sum_fits : unsigned_abs stage ≤ limit → depths (min (64 * (b + 1)) (length heights)) heights stage ≤ 537_001_992_000_000_000
      unfolding heights_check
      sum_fits h = sum_most _ heights stage (omega (arith, few)) h (range_check_size _ heights _ all_in)

-- ---- the block of a turn

abbrev next : In-Some → List ℤ
next c = chunks_rest (enumerate_source c.next.new.self)

this : (c : In-Some) → Chunk c.args.heights.now c.in-Some.b c.in-Some.block.now (next c)
this c =
    let s = c.in-Some.ensures.steps in
    let p = c.loop-b.invariant in
    chunk p.size (rw s.1 p.rest) s.0.1

-- the stage, by its bits, read back
abbrev stage_held : (z : ℤ) → unsigned_abs z ≤ limit → Held (to_z w64 (of_z w64 z)) z limit
stage_held z h = read tt (itself z limit h)

-- ---- what it finds

begins : {b : ℕ} (n : ℕ) → b ≡ 0 → min (64 * b) n ≡ 0
begins n e = omega arith

pub loop-b-init : goal.loop-b-init
unfolding heights_check range_check first_of depths
loop-b-init c =
    let n = length c.args.heights.now in
    let e : enumerate_count c.into_iter-b-iterator.result ≡ 0 = ap enumerate_count c.into_iter-b-iterator.ensures.into_iter_gives ∙ c.enumerate-b-items.ensures.count in
    let r : chunks_rest (enumerate_source c.into_iter-b-iterator.result) ≡ c.args.heights.now =
    ap (λ i. chunks_rest (enumerate_source i)) c.into_iter-b-iterator.ensures.into_iter_gives ∙ ap chunks_rest c.enumerate-b-items.ensures.source ∙ c.chunks.ensures.rest in
    record { size = search rules; rest = rw (r, e) refl; passed = rw (begins n e) refl; sum = rw (begins n e) refl }

pub loop-b-preserved : goal.loop-b-preserved
loop-b-preserved c =
    let a = c.args in
    let p = c.loop-b.invariant in
    let s = c.in-Some.ensures.steps in
    let t = this (goal.at.loop-b-preserved c).In-Some in
    let before = rw (← s.1) at p.passed in
    let passed = c.in_default.ensures (λ k. range (64 * c.in-Some.b + k + 1)) in
    let count : enumerate_count c.next.new.self ≡ c.in-Some.b + 1 = omega (arith, s.1, s.2) in
    record {
      size = search rules;
      rest = next_is t ∙ ap (λ b. drop (64 * b) a.heights.now) (sym count);
      passed = rw count (all_in t c.requires.0 before passed);
      sum = rw count (grown t c.requires.0 before passed (to_z w64 (of_z w64 a.stage)) (rw (← s.1) at p.sum) c.depth_sum-sum.ensures);
    }

pub returns-in-Some-first_out : goal.returns-in-Some-first_out
returns-in-Some-first_out c =
    let t = this (goal.at.returns-in-Some-first_out c).In-Some in
    let k = c.in-Some-first_out.k in
    some_answer _ (out_is t c.requires.0 (rw (← c.in-Some.ensures.steps.1) at c.loop-b.invariant.passed) k (c.in-Some-first_out.ensures (λ k. range (64 * c.in-Some.b + k + 1))))

pub returns : goal.returns
returns c =
    let a = c.args in
    let p = c.loop-b.invariant in
    let all = all_passed a.heights.now (enumerate_count c.loop-b.b-iterator) p.rest c.in-None.ensures.steps.0.1.0 in
    none_answer _ (rw all at p.passed) (rw all at p.sum ∙ ap (depths (length a.heights.now) a.heights.now) (stage_held a.stage c.requires.1).is)

-- ---- what its steps ask

-- the block of a turn, where one is out of range, and where none is
module _ (c : In-Some) where
  before : heights_check (min (64 * c.in-Some.b) (length c.args.heights.now)) c.args.heights.now ≡ none
  before = rw (← c.in-Some.ensures.steps.1) at c.loop-b.invariant.passed

pub overflow_add-result : goal.overflow_add-result
overflow_add-result c =
    let s = (goal.at.overflow_add-result c).In-Some in
    omega (arith, place_fits (this s) c.requires.0 (before s) c.in-Some-first_out.k (c.in-Some-first_out.ensures (λ k. range (64 * c.in-Some.b + k + 1))))

pub overflow_add-result-in-Some-first_out : goal.overflow_add-result-in-Some-first_out
overflow_add-result-in-Some-first_out c =
    let s = (goal.at.overflow_add-result-in-Some-first_out c).In-Some in
    omega (arith, place_fits (this s) c.requires.0 (before s) c.in-Some-first_out.k (c.in-Some-first_out.ensures (λ k. range (64 * c.in-Some.b + k + 1))))

pub depth_sum-sum-requires : goal.depth_sum-sum-requires
depth_sum-sum-requires c =
    let s = (goal.at.depth_sum-sum-requires c).In-Some in
    let q = c.requires in (
      omega (arith, chunk_ends (this s)),
      block_in (this s) q.0 (before s) (c.in_default.ensures (λ k. range (64 * c.in-Some.b + k + 1))),
      small limit tt (stage_held c.args.stage q.1),
    )

pub overflow_add-sum : goal.overflow_add-sum
overflow_add-sum c =
    let s = (goal.at.overflow_add-sum c).In-Some in
    let q = c.requires in
    let stage = to_z w64 (of_z w64 c.args.stage) in
    let passed = c.in_default.ensures (λ k. range (64 * c.in-Some.b + k + 1)) in
    omega (
      arith,
      grown (this s) q.0 (before s) passed stage (rw (← c.in-Some.ensures.steps.1) at c.loop-b.invariant.sum) c.depth_sum-sum.ensures,
      sum_fits (this s) q.0 (before s) passed stage (small limit tt (stage_held c.args.stage q.1)),
    )
