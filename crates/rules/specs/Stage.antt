-- "Stage for a wanted storage" of document 02: the lowest stage that stores at least the wanted litres, and the call's checks and answer. Definitions only.
use Rattle.std.specs.Prelude.{ℕ, zero, suc, ◌*◌, ◌≤◌, ◌<◌, Bool, cond, List, leb, ℤ, pos, nat_abs, ◌-ℤ◌, ◌<ℤ◌}
use Rattle.rules.specs.Grid.{limit}
use Rattle.rules.specs.Answers.{no_stage, Check, require, ◌then◌, Answer, answer}
use Rattle.rules.specs.Storage.{storage, pond_check, heights_check}

-- "the lowest stage in range that stores at least the wanted litres, for the same raster and side"
pub record LowestStage (columns rows : ℕ) (heights : List ℤ) (wanted s : ℕ) (stage : ℤ) : Type 0 where
  pub in_range : nat_abs stage ≤ limit
  pub stores : wanted ≤ storage columns rows heights stage s
  pub no_lower : (lower : ℤ) → nat_abs lower ≤ limit → lower <ℤ stage → storage columns rows heights lower s < wanted

-- ---- which one that is

-- whether a stage "stores at least the wanted litres"
unfoldable pub enough : ℕ → ℕ → List ℤ → ℕ → ℕ → ℤ → Bool
enough columns rows heights wanted s stage = leb wanted (storage columns rows heights stage s)

-- the lowest of 0, 1, .. n - 1 for which t holds; n where it holds for none
unfoldable pub lowest_of : ℕ → (ℕ → Bool) → ℕ
lowest_of zero t = 0
lowest_of (suc n) t = cond (t 0) 0 (suc (lowest_of n (λ k. t (suc k))))

-- the stages in range from the lowest up: 0 stands for -4,000,000,000, and 8,000,000,000 for 4,000,000,000
unfoldable pub stage_at : ℕ → ℤ
stage_at k = pos k -ℤ pos limit

-- the lowest stage; 4,000,000,001, out of range, where there is none, which no answer gives
unfoldable pub stage_for : ℕ → ℕ → List ℤ → ℕ → ℕ → ℤ
stage_for columns rows heights wanted s = stage_at (lowest_of 8_000_000_001 (λ k. enough columns rows heights wanted s (stage_at k)))

-- ---- checks

-- 18: "None is reported precisely where even 4,000,000,000 stores less"
unfoldable pub reach_check : ℕ → ℕ → List ℤ → ℕ → ℕ → Check
reach_check columns rows heights wanted s = require (enough columns rows heights wanted s (pos limit)) no_stage

-- "Heights are indexed from 1, as for storage. Checks: 18 for none, last of all"
unfoldable pub stage_for_check : ℕ → ℕ → List ℤ → ℕ → ℕ → Check
stage_for_check columns rows heights wanted s =
    pond_check columns rows heights s then heights_check (columns * rows) heights then reach_check columns rows heights wanted s

unfoldable pub stage_for_answer : ℕ → ℕ → List ℤ → ℕ → ℕ → Answer ℤ
stage_for_answer columns rows heights wanted s = answer (stage_for_check columns rows heights wanted s) (stage_for columns rows heights wanted s)
