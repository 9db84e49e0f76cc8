-- "Pond storage" of document 02: the depths of a raster of heights below a stage, the litres that they store, and the call's checks and answer. Definitions only.
use Rattle.std.specs.Prelude.{ℕ, zero, suc, ◌+◌, ◌*◌, ◌/◌, List, leb, ℤ, pos, ◌-ℤ◌, length, get_or}
use Rattle.algebra.specs.Difference.{pos_part}
use Rattle.rules.specs.Grid.{within}
use Rattle.rules.specs.Answers.{short, side, range, Check, require, ◌then◌, range_check, Answer, answer}
use Rattle.rules.specs.Calls.{counts_check, stage_check}

-- "Depth at a node is stage less height where positive, else 0"
unfoldable pub depth : ℤ → ℤ → ℕ
depth stage height = pos_part (stage -ℤ height)

-- the "sum of depths" of the first n heights
unfoldable pub depths : ℕ → List ℤ → ℤ → ℕ
depths zero heights stage = 0
depths (suc n) heights stage = depths n heights stage + depth stage (get_or heights n (pos 0))

-- "the floor of (sum of depths × s²) / 100,000 litres"
unfoldable pub litres : ℕ → ℕ → ℕ
litres sum s = sum * (s * s) / 100_000

unfoldable pub storage : ℕ → ℕ → List ℤ → ℤ → ℕ → ℕ
storage columns rows heights stage s = litres (depths (columns * rows) heights stage) s

-- ---- checks

-- 16: "a node side s of 1 to 100 whole decimetres"
unfoldable pub side_check : ℕ → Check
side_check s = require (within 1 100 s) side

-- 8, 4 and 16: "more columns or rows is 8"; "16 for a side outside its range, after 4"
unfoldable pub pond_check : ℕ → ℕ → List ℤ → ℕ → Check
pond_check columns rows heights s = counts_check columns rows then require (leb (columns * rows) (length heights)) short then side_check s

-- 6: "the stage as index 0 and then the heights from 1"
unfoldable pub heights_check : ℕ → List ℤ → Check
heights_check n heights = range_check n heights (λ i. range (i + 1))

unfoldable pub storage_check : ℕ → ℕ → List ℤ → ℤ → ℕ → Check
storage_check columns rows heights stage s = pond_check columns rows heights s then stage_check stage then heights_check (columns * rows) heights

-- "It takes a raster of heights, a stage in range and a node side s"
unfoldable pub storage_answer : ℕ → ℕ → List ℤ → ℤ → ℕ → Answer ℕ
storage_answer columns rows heights stage s = answer (storage_check columns rows heights stage s) (storage columns rows heights stage s)
