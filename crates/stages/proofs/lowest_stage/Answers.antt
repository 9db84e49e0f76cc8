-- A sum stores the wanted litres exactly if it is at least the needed one.
use Rattle.std.proofs.Common.{◌≡◌, ℕ, ◌*◌, ◌≤◌, ◌<◌, false, leb, List, length, refl, sym, ap, ◌∙◌, le_trans, arith}
use Rattle.std.proofs.Math.Nat.{not-suc-le-zero}
use Rattle.std.proofs.Math.Decide.{dec_lt}
use Rattle.std.proofs.Math.Logic.{inl, inr}
use Rattle.std.proofs.lemmas.Bool.{le-leb, lt-leb}
use Rattle.std.specs.Prelude.{ℤ, negsuc}
use Rattle.rules.specs.Storage.{depths, litres}
use Rattle.rules.specs.Stage.{lowest_of, stage_at}
use Rattle.rules.specs.Laws.Checks.{AllInRange}
use Rattle.rules.proofs.Laws.Storage.{litres_rise, depths_most}
use Rattle.rules.specs.Laws.Stage.{needed_sum}
use Rattle.rules.proofs.Laws.Stage.{lowest_of_found, lowest_of_same, stage_in_range, needed_some}
use Rattle.rules.proofs.Laws.Needed.{needed_stores}
use Rattle.stages.specs.Numbered.{stage_numbered}
use Rattle.stages.proofs.Found.{some_found, none_found}
use Rattle.stages.proofs.lowest_stage.Goals as goal

module _ (heights : List ℤ) (n wanted side : ℕ) where
  -- the number of the stage that is looked for
  abbrev number : ℕ
  number = lowest_of 8_000_000_001 (λ k. leb wanted (litres (depths n heights (stage_at k)) side))

  none_wanted : wanted ≡ 0 → 0 ≡ number
  none_wanted e =
      sym
      (lowest_of_found 8_000_000_001 0 (λ k. leb wanted (litres (depths n heights (stage_at k)) side)) (omega arith) (λ i l. absurd (not-suc-le-zero l))
      (inr (le-leb wanted _ (omega arith))))

  -- no stage in range stores more than 8,000 metres on every node do
  too_much : AllInRange n heights → litres (n * 8_000_000_000) side < wanted → 8_000_000_001 ≡ number
  too_much all h =
      sym
      (lowest_of_found 8_000_000_001 8_000_000_001 (λ k. leb wanted (litres (depths n heights (stage_at k)) side)) (omega arith)
      (λ i l. lt-leb wanted _ (omega (arith, litres_rise side (depths_most n heights (stage_at i) ((stage_in_range i).1 (omega arith)) all)))) (inl refl))

  -- litres against what is wanted, and the sum against what is needed
  same_test : 0 < side → (sum : ℕ) → leb wanted (litres sum side) ≡ leb (needed_sum wanted side) sum
  same_test h sum = go (dec_lt sum (needed_sum wanted side))
    where
      go : Dec (sum < needed_sum wanted side) → leb wanted (litres sum side) ≡ leb (needed_sum wanted side) sum
      go (yes l) = short (dec_lt (litres sum side) wanted) ∙ sym (lt-leb (needed_sum wanted side) sum l)
        where
          short : Dec (litres sum side < wanted) → leb wanted (litres sum side) ≡ false
          short (yes k) = lt-leb wanted _ k
          short (no g) = let needs-less = (needed_stores wanted side sum h).0 (omega arith) in absurd (omega arith)
      go (no g) = let reached = (needed_stores wanted side sum h).1 (omega arith) in le-leb wanted _ reached ∙ sym (le-leb (needed_sum wanted side) sum (omega arith))

  as_searched : 0 < side → lowest_of 8_000_000_001 (λ k. leb (needed_sum wanted side) (depths n heights (stage_at k))) ≡ number
  as_searched h =
      lowest_of_same 8_000_000_001 (λ k. leb (needed_sum wanted side) (depths n heights (stage_at k))) (λ k. leb wanted (litres (depths n heights (stage_at k)) side))
      (λ k. sym (same_test h (depths n heights (stage_at k))))

-- the lowest stage
lowest_is : negsuc 3_999_999_999 ≡ stage_at 0
unfolding stage_at
lowest_is = refl

pub returns-then-wanted-eq0 : goal.returns-then-wanted-eq0
returns-then-wanted-eq0 c = let a = c.args in some_found lowest_is (none_wanted a.heights.now (length a.heights.now) a.wanted a.side (omega arith)) (omega arith)

pub returns-then-litres-wanted : goal.returns-then-litres-wanted
returns-then-litres-wanted c =
    let a = c.args in
    none_found (sym (too_much a.heights.now (length a.heights.now) a.wanted a.side c.requires.1 (omega (arith, c.litres.ensures, c.if-litres-wanted.true))))

pub returns : goal.returns
returns c =
    let a = c.args in
    c.search.ensures
    ∙ ap (λ v. stage_numbered (lowest_of 8_000_000_001 (λ k. leb v (depths (length a.heights.now) a.heights.now (stage_at k))))) c.needed_sum.ensures
    ∙ ap stage_numbered (as_searched a.heights.now (length a.heights.now) a.wanted a.side c.requires.2)

-- ---- what its steps ask

-- the needed sum, where a raster of n nodes can store what is wanted
module _ (n wanted side : ℕ) (some : 0 < side) (within : wanted ≤ litres (n * 8_000_000_000) side) where
  least_most : needed_sum wanted side ≤ n * 8_000_000_000
  least_most = (needed_stores wanted side (n * 8_000_000_000) some).0 within

pub needed_sum-requires : goal.needed_sum-requires
needed_sum-requires c =
    let a = c.args in
    let q = c.requires in
    let within : a.wanted ≤ litres (length a.heights.now * 8_000_000_000) a.side = omega (arith, c.litres.ensures, c.if-litres-wanted.false) in
    (q.2, q.3, le_trans within (litres_rise a.side (omega (arith, q.0))))

pub search-requires : goal.search-requires
search-requires c =
    let a = c.args in
    let q = c.requires in
    let within : a.wanted ≤ litres (length a.heights.now * 8_000_000_000) a.side = omega (arith, c.litres.ensures, c.if-litres-wanted.false) in
    let some = needed_some a.wanted a.side q.2 (omega arith) in
    let most = least_most (length a.heights.now) a.wanted a.side q.2 within in
    (q.0, q.1, omega (arith, some, most), omega (arith, c.needed_sum.ensures, some), omega (arith, c.needed_sum.ensures, most, q.0))
