-- The "or" is no less than any depth passed.
use Rattle.std.proofs.Common.{ℕ, ◌≤◌, ◌<◌, List, get_or}
use Rattle.std.specs.Prelude.{ℤ, pos}
use Rattle.rules.specs.Storage.{depth}
use Rattle.stages.proofs.dry_number.Given as goal

-- no depth of the first i heights below `first` is more than this
abbrev pub Reaches : ℤ → List ℤ → ℕ → ℕ → Type 0
Reaches first heights i deepest = (j : ℕ) → j < i → depth first (get_or heights j (pos 0)) ≤ deepest

abbrev pub invariant-loop-height : goal.invariant-loop-height
invariant-loop-height l = Reaches l.first l.heights l.height-index l.deepest
