-- What the contracts of a point's sums cite beside the rules: the code's sums as those of the rules, and how sums stand in f64 scratch.
use Rattle.std.specs.Prelude.{ℕ, zero, suc, ◌+◌, ◌*◌, List, Float, get_or}
use Rattle.std.specs.Float.{nan}
use Rattle.algebra.specs.Table.{tabulate, laid}
use Rattle.rules.specs.Level as rule
use Rattle.point_sums.specs.declared.Sums.{Sums}

abbrev pub sums_of : Sums → rule.Sums
sums_of s = record { first = s.first; second = s.second }

-- the pair at place k of a list of first sums and a list of second sums
abbrev pub pair_of : List Float → List Float → ℕ → rule.Sums
pair_of first second k = record { first = get_or first k nan; second = get_or second k nan }

-- ---- sums in f64 scratch, for count control values: the first sum of the one at place q stands at q, the second at count + q. Where a list has no
-- entry, nan stands for one, as in the machine's reading.

unfoldable pub pair_at : ℕ → List Float → ℕ → rule.Sums
pair_at count sums q = record { first = get_or sums q nan; second = get_or sums (count + q) nan }

-- the four pairs from place q on, the one at q + k changed by f k
unfoldable pub row : (ℕ → rule.Sums → rule.Sums) → ℕ → List Float → ℕ → List Float
row f count sums q =
    let pair : ℕ → rule.Sums = λ k. f k (pair_at count sums (q + k)) in
    laid (count + q) (tabulate 4 (λ k. (pair k).second)) (laid q (tabulate 4 (λ k. (pair k).first)) sums)

-- n rows of four pairs, each width places after the one before, the one at q + l * width + k changed by f k l
unfoldable pub rows : (ℕ → ℕ → rule.Sums → rule.Sums) → ℕ → ℕ → ℕ → List Float → ℕ → List Float
rows f width count zero sums q = sums
rows f width count (suc n) sums q = row (λ k. f k n) count (rows f width count n sums q) (q + n * width)

-- a block of weights added with a confidence, from place q on
abbrev pub block_added : Float → (ℕ → ℕ → Float) → Float → ℕ → ℕ → List Float → ℕ → List Float
block_added confidence w z width count = rows (λ k l. rule.grown confidence (w k l) z (rule.squares w)) width count 4
