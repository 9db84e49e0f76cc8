-- What the contracts of a level's sums cite beside the rules: a point's part in them, and the sums after all points.
use Rattle.std.specs.Prelude.{ℕ, ◌+◌, ◌*◌, ◌/◌, ◌%◌, List, ◌++◌, pos, Float}
use Rattle.algebra.specs.Table.{tabulate}
use Rattle.rules.specs.Grid.{controls}
use Rattle.rules.specs.Surface.{cell}
use Rattle.rules.specs.Level as rule
use Rattle.weights.specs.Block.{weight_at, point_block}
use Rattle.point_sums.specs.Sums.{block_added}

-- a point's part in its sixteen control values
unfoldable pub point_added : ℕ → ℕ → ℕ → rule.Point → List Float → List Float
point_added U m n p sums =
    block_added (rule.float (pos p.q)) (weight_at (point_block U m n p)) (rule.float p.z) (m + 3) (controls m n) sums (cell U n p.y * (m + 3) + cell U m p.x)

-- count pairs as they stand in scratch, f q the one at place q
unfoldable pub paired : ℕ → (ℕ → rule.Sums) → List Float
paired count f = tabulate count (λ q. (f q).first) ++ tabulate count (λ q. (f q).second)

-- the sums of every control value of m by n cells, after all the points
unfoldable pub sum_table : ℕ → ℕ → ℕ → List rule.Point → List Float
sum_table U m n points = paired (controls m n) (λ q. rule.gathered U m n (q % (m + 3)) (q / (m + 3)) points rule.no_sums)
