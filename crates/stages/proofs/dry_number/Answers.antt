use Rattle.std.proofs.Common.{◌≡◌, ℕ, ◌+◌, ◌-◌, ◌≤◌, ◌<◌, List, length, get_or, ap, subst, ◌∙◌, le_trans, arith, to_z, of_z}
use Rattle.std.proofs.Math.Decide.{dec_lt}
use Rattle.std.specs.Prelude.{ℤ, pos, nat_abs, ◌+ℤ◌, ◌≤ℤ◌}
use Rattle.std.specs.Int.{w64}
use Rattle.std.specs.Int.Bits.{bit_or}
use Rattle.algebra.specs.Difference.{split, whole, pos_part-⊝}
use Rattle.algebra.specs.Size.{nat_abs_range}
use Rattle.machine.specs.Bits.{or_least}
use Rattle.machine.specs.Held.{Held, itself, literal, read, plus, small}
use Rattle.rules.specs.Grid.{limit}
use Rattle.rules.specs.Storage.{depth}
use Rattle.rules.specs.Stage.{stage_at}
use Rattle.rules.specs.Laws.Checks.{AllInRange}
use Rattle.stages.proofs.dry_number.Invariants.{Reaches}
use Rattle.stages.proofs.dry_number.Goals as goal

-- one more height
grown : (first : ℤ) (heights : List ℤ) (i was deepest : ℕ) → Reaches first heights i was → was ≤ deepest → depth first (get_or heights i (pos 0)) ≤ deepest
    → Reaches first heights (i + 1) deepest
grown first heights i was deepest r l h j k = go (dec_lt j i)
  where
    go : Dec (j < i) → depth first (get_or heights j (pos 0)) ≤ deepest
    go (yes m) = le_trans (r j m) l
    go (no g) = let same : i ≡ j = omega arith in subst (λ q. depth first (get_or heights q (pos 0)) ≤ deepest) same h

-- ---- the number of a stage, and of one that many micrometres below it

number_most : (z : ℤ) → nat_abs z ≤ limit → nat_abs (z +ℤ pos 4_000_000_000) ≤ 8_000_000_000
number_most z = rw (split z) (simp whole (omega arith))

below_first : (first z : ℤ) (deepest : ℕ) → nat_abs first ≤ limit → deepest ≤ nat_abs (first +ℤ pos 4_000_000_000) → depth first z ≤ deepest
    → stage_at (nat_abs (first +ℤ pos 4_000_000_000) - deepest) ≤ℤ z
unfolding stage_at depth
below_first first z deepest = rw (split first, split z) (simp (whole, pos_part-⊝) (omega arith))

lowest_below : (z : ℤ) → nat_abs z ≤ limit → stage_at 0 ≤ℤ z
unfolding stage_at
lowest_below z h = ((nat_abs_range z limit).0 h).0

-- ---- a height in range, read back, and its number

abbrev held : (z : ℤ) → nat_abs z ≤ limit → Held (to_z w64 (of_z w64 z)) z limit
held z h = read tt (itself z limit h)

module _ (z : ℤ) (size : nat_abs z ≤ limit) where
  abbrev back : ℤ
  back = to_z w64 (of_z w64 z)

  back_size : nat_abs back ≤ limit
  back_size = small limit tt (held z size)

  number_is : nat_abs (to_z w64 (of_z w64 (back +ℤ pos 4_000_000_000))) ≡ nat_abs (back +ℤ pos 4_000_000_000)
  number_is = ap nat_abs (read tt (plus (itself back limit back_size) (literal (pos 4_000_000_000)))).is

-- ---- what it finds

pub loop-height-preserved : goal.loop-height-preserved
loop-height-preserved c =
    let heights = c.args.heights.now in
    let l = c.loop-height in
    let i = l.height-index in
    let first = to_z w64 (of_z w64 (get_or heights 0 (pos 0))) in
    let least = or_least l.deepest c.depth-deepest.result in
    let depth_is = c.depth-deepest.ensures ∙ ap (depth first) (held (get_or heights i (pos 0)) (c.requires.0 i c.loop-height-test.true)).is in
    grown first heights i l.deepest _ l.invariant least.0 (subst (λ d. d ≤ bit_or l.deepest c.depth-deepest.result) depth_is least.1)

-- the depths taken from the first height's number, or none where they are more
module _ (heights : List ℤ) (all : AllInRange (length heights) heights) (some : 0 < length heights) where
  abbrev first : ℤ
  first = to_z w64 (of_z w64 (get_or heights 0 (pos 0)))

  abbrev number : ℕ
  number = nat_abs (to_z w64 (of_z w64 (first +ℤ pos 4_000_000_000)))

  number_fits : number ≤ 8_000_000_000
  number_fits =
      let z = get_or heights 0 (pos 0) in
      let size = all 0 some in
      omega (arith, number_is z size, number_most (back z size) (back_size z size))

  below : {r deepest : ℕ} → r ≡ number - deepest → Reaches first heights (length heights) deepest → (i : ℕ) → i < length heights → stage_at r ≤ℤ get_or heights i (pos 0)
  below {r} {deepest} is reaches i l = go (dec_lt number deepest)
    where
      go : Dec (number < deepest) → stage_at r ≤ℤ get_or heights i (pos 0)
      go (yes k) = let none : r ≡ 0 = omega arith in rw none (lowest_below (get_or heights i (pos 0)) (all i l))
      go (no k) =
          let z = get_or heights 0 (pos 0) in
          let size = all 0 some in
          let e = number_is z size in
          let same : r ≡ nat_abs (back z size +ℤ pos 4_000_000_000) - deepest = is ∙ ap (λ v. v - deepest) e in
          rw same (below_first (back z size) (get_or heights i (pos 0)) deepest (back_size z size) (omega (arith, e)) (reaches i l))

pub returns : goal.returns
returns c =
    let heights = c.args.heights.now in
    let l = c.loop-height in
    let q = c.requires in
    let all : l.height-index ≡ length heights = omega arith in
    (omega (arith, c.saturating_sub.ensures, number_fits heights q.0 q.1), below heights q.0 q.1 c.saturating_sub.ensures (rw all at l.invariant))
