use Rattle.std.proofs.Common.{◌≡◌, ℕ, ◌+◌, ◌-◌, ◌/◌, ◌^◌, ◌≤◌, ◌<◌, leb, List, length, get_or, refl, sym, ap, subst, ◌∙◌, arith, to_z, of_z}
use Rattle.std.proofs.Math.Nat.{not-suc-le-zero}
use Rattle.std.proofs.Math.Logic.{inl}
use Rattle.std.specs.Prelude.{ℤ, pos, ◌-ℤ◌, Some}
use Rattle.std.specs.Int.{w64}
use Rattle.algebra.specs.Size.{nat_abs_range}
use Rattle.machine.specs.Held.{literal, cast, read, minus}
use Rattle.rules.specs.Grid.{limit}
use Rattle.rules.specs.Storage.{depths}
use Rattle.rules.specs.Stage.{lowest_of, stage_at}
use Rattle.rules.specs.Laws.Checks.{AllInRange}
use Rattle.rules.specs.Laws.Stage.{wets}
use Rattle.rules.proofs.Laws.Stage.{wets_most, sum_none}
use Rattle.stages.proofs.Bracket.{Bracket, middle_in, lower_half, upper_half, shut, risen_some, risen_most, raised, wet_some, fallen_most, lowered, is_lowest}
use Rattle.stages.specs.Numbered.{stage_numbered}
use Rattle.stages.proofs.Found.{some_found, none_found}
use Rattle.stages.proofs.Rounded.{rounded_up}
use Rattle.stages.proofs.search.Goals as goal

-- ---- a stage from its number

module _ (k : ℕ) (l : k ≤ 8_000_000_001) where
  stage_is : to_z w64 (of_z w64 (to_z w64 k -ℤ pos 4_000_000_000)) ≡ stage_at k
  unfolding stage_at
  stage_is = (read tt (minus (cast k 8_000_000_001 l tt) (literal (pos 4_000_000_000)))).is

-- no node is wet at the lowest stage
dry : (heights : List ℤ) (n : ℕ) → AllInRange n heights → depths n heights (stage_at 0) ≡ 0
unfolding stage_at
dry heights n all = sum_none heights n 0 (λ i l. ((nat_abs_range (get_or heights i (pos 0)) limit).0 (all i l)).0)

-- ---- where it begins: every stage in range is in the bracket

whole_range : (heights : List ℤ) (n needed : ℕ) → Bracket heights n needed 0 8_000_000_001 n
whole_range heights n needed = record {
  less = λ k l h. absurd (not-suc-le-zero l);
  wetter = λ k h. wets_most heights n (stage_at k);
  reached = inl refl;
  last = omega arith;
}

-- as many numbers past one at which no node is wet as the needed sum takes
module _ (heights : List ℤ) (n needed : ℕ) (n_some : 0 < n) (some : 0 < needed) (begins : ℕ) (none_wet : depths n heights (stage_at begins) ≡ 0)
    {up : ℕ} (is : up ≡ (needed + (n - 1)) / n) where
  up_is : up ≡ (needed - 0 + (n - 1)) / n
  up_is = let none_less : needed ≡ needed - 0 = omega arith in is ∙ ap (λ v. (v + (n - 1)) / n) none_less

  up_most : up ≤ needed
  up_most = omega (arith, up_is, risen_most (whole_range heights n needed) begins 0 (sym none_wet) some n_some)

  first_bracket : Bracket heights n needed (begins + up) 8_000_000_001 n
  first_bracket = subst (λ v. Bracket heights n needed (begins + v) 8_000_000_001 n) (sym up_is) (raised (whole_range heights n needed) begins 0 (sym none_wet) some n_some)

pub loop-low-init : goal.loop-low-init
loop-low-init c =
    let a = c.args in
    let q = c.requires in
    let heights = a.heights.now in
    let n = length heights in
    let none_wet = sum_none heights n c.dry_number.result c.dry_number.ensures.1 in
    let up = c.div_ceil.ensures ∙ rounded_up a.needed n q.2 in (
      first_bracket heights n a.needed q.2 q.3 c.dry_number.result none_wet up,
      omega arith,
      q.2,
      q.0,
      omega (arith, c.dry_number.ensures.0, up_most heights n a.needed q.2 q.3 c.dry_number.result none_wet up, q.4),
    )

-- ---- a turn: the middle of the bracket is tried

module _ {heights : List ℤ} {n needed low high most : ℕ} (b : Bracket heights n needed low high most) (left : ℕ) (open_yet : low < high) (few : high - low < 2 ^ left) where
  abbrev k : ℕ
  k = (low + high) / 2

  k_most : k ≤ 8_000_000_001
  k_most = omega (arith, middle_in left open_yet few, b.last)

  -- the stage that is tried, by its bits
  abbrev stage : ℤ
  stage = to_z w64 (of_z w64 (to_z w64 k -ℤ pos 4_000_000_000))

  sum_is : {sum : ℕ} → sum ≡ depths n heights stage → sum ≡ depths n heights (stage_at k)
  sum_is e = e ∙ ap (depths n heights) (stage_is k k_most)

  wet_is : {wet : ℕ} → wet ≡ wets n heights stage → wet ≡ wets n heights (stage_at k)
  wet_is e = e ∙ ap (wets n heights) (stage_is k k_most)

  -- too little
  module _ {sum up : ℕ} (told : sum ≡ depths n heights stage) (short : sum < needed) (some : 0 < most) (is : up ≡ (needed - sum + (most - 1)) / most) where
    up_some : 0 < up
    up_some = omega (arith, is, risen_some b k _ (sum_is told) short some)

    up_below : up ≤ needed
    up_below = omega (arith, is, risen_most b k _ (sum_is told) short some)

    upper : Bracket heights n needed (k + up) high most
    upper = subst (λ v. Bracket heights n needed (k + v) high most) (sym is) (raised b k _ (sum_is told) short some)

    upper_few : high - (k + up) < 2 ^ (left - 1)
    upper_few = omega (arith, upper_half left open_yet few, up_some)

  -- enough
  module _ {sum wet : ℕ} (told : sum ≡ depths n heights stage) (told_wet : wet ≡ wets n heights stage) (enough : needed ≤ sum) (some : 0 < needed) (all : AllInRange n heights) where
    nodes_wet : 0 < wet
    nodes_wet = wet_some b k _ (sum_is told) _ (wet_is told_wet) enough some (dry heights n all)

    down_most : (sum - needed) / wet ≤ k
    down_most = fallen_most b k _ (sum_is told) _ (wet_is told_wet) enough some (dry heights n all)

    lower : Bracket heights n needed low (k - (sum - needed) / wet) wet
    lower = lowered b k _ (sum_is told) _ (wet_is told_wet) enough some (dry heights n all) (middle_in left open_yet few).1

    lower_few : k - (sum - needed) / wet - low < 2 ^ (left - 1)
    lower_few = omega (arith, lower_half left open_yet few)

    lowest : sum - needed < wet → Some stage ≡ stage_numbered (lowest_of 8_000_000_001 (λ k. leb needed (depths n heights (stage_at k))))
    lowest less =
        let in_bracket = (middle_in left open_yet few).1 in
        some_found (stage_is k k_most) (is_lowest b k _ (sum_is told) _ (wet_is told_wet) enough some (dry heights n all) less in_bracket) (omega (arith, in_bracket, b.last))

pub loop-low-preserved-then-tried-needed : goal.loop-low-preserved-then-tried-needed
loop-low-preserved-then-tried-needed c =
    let l = c.loop-low in
    let i = l.invariant in
    let told = c.pond_at-tried.ensures.sum_of_depths in
    let up = c.div_ceil-then-tried-needed.ensures ∙ rounded_up (c.args.needed - c.pond_at-tried.result.sum) l.most i.2 in (
      upper i.0 l.left c.loop-low-test.true i.1 told c.if-tried-needed.true i.2 up,
      upper_few i.0 l.left c.loop-low-test.true i.1 told c.if-tried-needed.true i.2 up,
      i.2,
      i.3,
      omega (arith, k_most i.0 l.left c.loop-low-test.true i.1, up_below i.0 l.left c.loop-low-test.true i.1 told c.if-tried-needed.true i.2 up, c.requires.4),
    )

pub loop-low-preserved : goal.loop-low-preserved
loop-low-preserved c =
    let l = c.loop-low in
    let i = l.invariant in
    let q = c.requires in
    let told = c.pond_at-tried.ensures.sum_of_depths in
    let wet = c.pond_at-tried.ensures.wet_count in (
      lower i.0 l.left c.loop-low-test.true i.1 told wet c.if-tried-needed.false q.3 q.1,
      lower_few i.0 l.left c.loop-low-test.true i.1 told wet c.if-tried-needed.false q.3 q.1,
      nodes_wet i.0 l.left c.loop-low-test.true i.1 told wet c.if-tried-needed.false q.3 q.1,
      rw wet (omega (arith, wets_most c.args.heights.now (length c.args.heights.now) (stage i.0 l.left c.loop-low-test.true i.1), q.1)),
      i.4,
    )

pub returns-then-spare-tried : goal.returns-then-spare-tried
returns-then-spare-tried c =
    let l = c.loop-low in
    let i = l.invariant in
    let q = c.requires in
    let told = c.pond_at-tried.ensures.sum_of_depths in
    let wet = c.pond_at-tried.ensures.wet_count in
    lowest i.0 l.left c.loop-low-test.true i.1 told wet c.if-tried-needed.false q.3 q.1 c.if-spare-tried.true

pub returns-then-high-eq8000000001 : goal.returns-then-high-eq8000000001
returns-then-high-eq8000000001 c = none_found (sym (shut c.loop-low.invariant.0 (omega arith)) ∙ c.if-high-eq8000000001.true)

pub returns : goal.returns
returns c =
    let l = c.loop-low in
    some_found (stage_is l.high l.invariant.0.last) (shut l.invariant.0 (omega arith)) (omega (arith, l.invariant.0.last, c.if-high-eq8000000001.false))

-- ---- what its steps ask

pub nonzero_div-high : goal.nonzero_div-high
nonzero_div-high c =
    let l = c.loop-low in
    let i = l.invariant in
    let q = c.requires in
    let told = c.pond_at-tried.ensures.sum_of_depths in
    let wet = c.pond_at-tried.ensures.wet_count in
    nodes_wet i.0 l.left c.loop-low-test.true i.1 told wet c.if-tried-needed.false q.3 q.1

pub overflow_sub-high : goal.overflow_sub-high
overflow_sub-high c =
    let l = c.loop-low in
    let i = l.invariant in
    let q = c.requires in
    let told = c.pond_at-tried.ensures.sum_of_depths in
    let wet = c.pond_at-tried.ensures.wet_count in
    down_most i.0 l.left c.loop-low-test.true i.1 told wet c.if-tried-needed.false q.3 q.1
