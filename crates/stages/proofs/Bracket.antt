-- The search's bracket: numbers of stages below both `low` and `high` sum up to less than is needed, and that of `high` doesn't, or is past the last. What a stage that is
-- tried between them tells of both ends, and why each try halves the bracket.
use Rattle.std.proofs.Common.{◌≡◌, sym, ap, subst, ◌⊎◌, List, ℕ, zero, suc, ◌+◌, ◌-◌, ◌*◌, ◌/◌, ◌^◌, ◌≤◌, ◌<◌, arith, leb}
use Rattle.std.proofs.Math.Logic.{⊎_elim, inl, inr}
use Rattle.std.proofs.Math.Nat.{mul-le-mul_left, mul-le-mul_right, mul-div-le, div-lt_iff_lt-mul, add-sub_of_le, sub-add_cancel, zero-add}
use Rattle.std.proofs.Math.Decide.{dec_lt}
use Rattle.std.proofs.lemmas.Bool.{le-leb, lt-leb}
use Rattle.std.specs.Prelude.{ℤ}
use Rattle.algebra.specs.Size.{ceil_le}
use Rattle.rules.specs.Storage.{depths}
use Rattle.rules.specs.Stage.{lowest_of, stage_at}
use Rattle.rules.proofs.Laws.Storage.{depths_rise}
use Rattle.rules.specs.Laws.Stage.{wets}
use Rattle.rules.proofs.Laws.Stage.{lowest_of_found, stage_order, sum_next, wets_rise, sum_climbs}

-- ---- halves: of a bracket of at most 2^left numbers, tried in its middle

module _ {low high : ℕ} (left : ℕ) (open-yet : low < high) (few : high - low < 2 ^ left) where
  pub middle_in : (low ≤ (low + high) / 2) × ((low + high) / 2 < high)
  middle_in = (omega arith, omega arith)

  pub lower_half : (low + high) / 2 - low < 2 ^ (left - 1)
  lower_half = go left few
    where
      go : (l : ℕ) → high - low < 2 ^ l → (low + high) / 2 - low < 2 ^ (l - 1)
      go zero h = absurd (omega arith)
      go (suc l) h = let same : suc l - 1 ≡ l = omega arith in rw same (omega arith)

  pub upper_half : high - ((low + high) / 2 + 1) < 2 ^ (left - 1)
  upper_half = go left few
    where
      go : (l : ℕ) → high - low < 2 ^ l → high - ((low + high) / 2 + 1) < 2 ^ (l - 1)
      go zero h = absurd (omega arith)
      go (suc l) h = let same : suc l - 1 ≡ l = omega arith in rw same (omega arith)

-- ---- the bracket

pub record Bracket (heights : List ℤ) (n needed low high most : ℕ) : Type 0 where
  pub less : (k : ℕ) → k < low → k < high → depths n heights (stage_at k) < needed
  pub wetter : (k : ℕ) → k < high → wets n heights (stage_at k) ≤ most
  pub reached : (high ≡ 8_000_000_001) ⊎ (needed ≤ depths n heights (stage_at high))
  pub last : high ≤ 8_000_000_001

module _ {heights : List ℤ} {n needed low high most : ℕ} (b : Bracket heights n needed low high most) where
  abbrev sum_at : ℕ → ℕ
  sum_at k = depths n heights (stage_at k)

  abbrev wet_at : ℕ → ℕ
  wet_at k = wets n heights (stage_at k)

  sums_rise : (i k : ℕ) → i ≤ k → sum_at i ≤ sum_at k
  sums_rise i k l = depths_rise n heights (stage_at i) (stage_at k) ((stage_order i k).1 l)

  -- the number that is looked for
  found_at : (k : ℕ) → k ≤ 8_000_000_001 → ((i : ℕ) → i < k → sum_at i < needed) → (k ≡ 8_000_000_001) ⊎ (needed ≤ sum_at k)
      → k ≡ lowest_of 8_000_000_001 (λ k. leb needed (sum_at k))
  found_at k l before end =
      sym
      (lowest_of_found 8_000_000_001 k (λ k. leb needed (sum_at k)) l (λ i h. lt-leb needed (sum_at i) (before i h)) (⊎_elim inl (λ e. inr (le-leb needed (sum_at k) e)) end))

  -- a bracket that is shut
  pub shut : high ≤ low → high ≡ lowest_of 8_000_000_001 (λ k. leb needed (sum_at k))
  shut l = found_at high b.last (λ i h. b.less i (omega arith) h) b.reached

  -- what a sum over the raster tells of the stage that is tried
  module _ (k sum : ℕ) (sum_is_lem : sum ≡ sum_at k) where
    -- too little: and so for as many micrometres more as it takes with `most` nodes wet
    module _ (short : sum < needed) (some : 0 < most) where
      abbrev risen : ℕ
      risen = (needed - sum + (most - 1)) / most

      pub risen_some : 0 < risen
      risen_some = go (dec_lt 0 risen)
        where
          go : Dec (0 < risen) → 0 < risen
          go (yes h) = h
          go (no g) = let none = (ceil_le (needed - sum) most 0 some).0 (omega (arith, g)) in absurd (omega arith)

      pub risen_most : risen ≤ needed
      risen_most = (ceil_le (needed - sum) most needed some).1 (omega (arith, mul-le-mul_left needed some))

      climbed : (g : ℕ) → g < risen → k + g < high → sum_at (k + g) < needed
      climbed g h l = go (dec_lt (g * most) (needed - sum))
        where
          go : Dec (g * most < needed - sum) → sum_at (k + g) < needed
          go (yes m) = omega (arith, sum_climbs heights n k g, mul-le-mul_right g (b.wetter (k + g) l))
          go (no m) = let not_less = (ceil_le (needed - sum) most g some).1 (omega (arith, m)) in absurd (omega arith)

      pub raised : Bracket heights n needed (k + risen) high most
      raised = record { less = less; wetter = b.wetter; reached = b.reached; last = b.last }
        where
          less : (i : ℕ) → i < k + risen → i < high → sum_at i < needed
          less i h l = go (dec_lt i k)
            where
              go : Dec (i < k) → sum_at i < needed
              go (yes m) = omega (arith, sums_rise i k (omega arith))
              go (no m) = let e : k + (i - k) ≡ i = add-sub_of_le (omega arith) in subst (λ j. sum_at j < needed) e (climbed (i - k) (omega arith) (omega arith))

    -- enough: and so for as many micrometres less as there is to spare with those nodes wet that are
    module _ (wet : ℕ) (wet-is : wet ≡ wet_at k) (enough : needed ≤ sum) (some : 0 < needed) (dry : sum_at 0 ≡ 0) where
      abbrev fallen : ℕ
      fallen = (sum - needed) / wet

      from_none : sum ≤ wet * k
      from_none = rw (sum_is_lem, wet-is) (omega (arith, subst (λ j. sum_at j ≤ sum_at 0 + wet_at j * k) (zero-add k) (sum_climbs heights n 0 k)))

      pub wet_some : 0 < wet
      wet_some = go wet from_none
        where
          go : (w : ℕ) → sum ≤ w * k → 0 < w
          go zero h = absurd (omega arith)
          go (suc w) h = omega arith

      pub fallen_most : fallen ≤ k
      fallen_most = let l = (div-lt_iff_lt-mul {x = sum - needed} {y = suc k} wet_some).1 (omega (arith, from_none)) in omega arith

      climbs_back : sum_at k ≤ sum_at (k - fallen) + wet_at k * fallen
      climbs_back = subst (λ j. sum_at j ≤ sum_at (k - fallen) + wet_at j * fallen) (sub-add_cancel fallen_most) (sum_climbs heights n (k - fallen) fallen)

      falls : needed ≤ sum_at (k - fallen)
      falls = omega (arith, sum_is_lem, ap (λ w. w * fallen) wet-is, climbs_back, mul-div-le (sum - needed) wet)

      pub lowered : k < high → Bracket heights n needed low (k - fallen) wet
      lowered l = record {
        less = λ i h m. b.less i h (omega arith);
        wetter = λ i h. rw wet-is (wets_rise heights n i k (omega arith));
        reached = inr falls;
        last = omega (arith, b.last);
      }

      -- with less to spare than a micrometre holds it is the lowest
      pub is_lowest : sum - needed < wet → k < high → k ≡ lowest_of 8_000_000_001 (λ k. leb needed (sum_at k))
      is_lowest h l = found_at k (omega (arith, b.last)) before (inr (rw (← sum_is_lem) enough))
        where
          one_less : (j : ℕ) → j + 1 ≡ k → sum_at j < needed
          one_less j e = let step = subst (λ i. sum_at i ≡ sum_at j + wet_at i) e (sum_next heights n j) in omega arith

          before : (i : ℕ) → i < k → sum_at i < needed
          before i m = let next = one_less (k - 1) (omega arith) in omega (arith, sums_rise i (k - 1) (omega arith))
