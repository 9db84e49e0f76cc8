-- "Does any ground stand above a stage" of document 02: the answer of a full raster's nodes, and the call's checks and answer. Definitions only.
use Rattle.std.specs.Prelude.{ℕ, zero, suc, ◌*◌, Bool, false, ◌||◌, List, leb, ℤ, length}
use Rattle.std.specs.Int.Signed.{lt_z}
use Rattle.rules.specs.Grid.{controls}
use Rattle.rules.specs.Answers.{short, Check, require, ◌then◌, Answer, answer}
use Rattle.rules.specs.Calls.{cells_check, unit_check, stage_check, lattice_check, Nodes, node_height, size_check, nodes_check}

-- some of t 0, t 1, .. t (n - 1)
unfoldable pub any_of : ℕ → (ℕ → Bool) → Bool
any_of zero t = false
any_of (suc n) t = any_of n t || t n

-- a height that stands above the stage; one at the stage does not
unfoldable pub above : ℤ → ℤ → Bool
above stage height = lt_z stage height

-- "Answer yes or no for a rectangle of nodes, equal to the full raster's answer": yes where some node stands above, so "an empty rectangle is no"
unfoldable pub any_above : ℕ → ℕ → ℕ → List ℤ → Nodes → ℤ → Bool
any_above m n U lattice g stage = any_of (g.across * g.down) (λ q. above stage (node_height m n U lattice g q))

-- "A stage out of range is 6 with place 0, before the lattice; the raster's other checks hold": no output is lent
unfoldable pub above_check : ℕ → ℕ → ℕ → List ℤ → Nodes → ℤ → Check
above_check m n U lattice g stage =
    cells_check 512 m n
    then unit_check U
    then size_check g.step g.across g.down
    then require (leb (controls m n) (length lattice)) short
    then stage_check stage
    then lattice_check m n lattice
    then nodes_check (U * m) (U * n) g

unfoldable pub above_answer : ℕ → ℕ → ℕ → List ℤ → Nodes → ℤ → Answer Bool
above_answer m n U lattice g stage = answer (above_check m n U lattice g stage) (any_above m n U lattice g stage)
