-- The loops go through the block row by row, as the rule's four rows do.
use Rattle.std.proofs.Common.{◌≡◌, ℕ, zero, suc, ◌+◌, ◌*◌, ◌/◌, ◌%◌}
use Rattle.std.specs.Prelude.{Float}
use Rattle.rules.specs.Level as rule
use Rattle.rules.specs.Level.{◌⊕◌, ◌⊗◌}
use Rattle.weights.specs.Block.{weight_at}
use Rattle.weights.proofs.squares.Given as goal

-- the first n squares of a block, row by row
unfoldable pub partial : (ℕ → ℕ → Float) → ℕ → Float
partial w zero = rule.zero64
partial w (suc n) = partial w n ⊕ w (n / 4) (n % 4) ⊗ w (n / 4) (n % 4)

abbrev pub invariant-loop-k : goal.invariant-loop-k
invariant-loop-k l = l.s ≡ partial (weight_at l.w) (4 * l.k)

abbrev pub invariant-loop-l : goal.invariant-loop-l
invariant-loop-l l = l.s ≡ partial (weight_at l.w) (4 * l.k + l.l)
