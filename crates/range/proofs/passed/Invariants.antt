-- The loop's invariant: no value of the blocks before the loop's is out of range.
use Rattle.std.proofs.Common.{ℕ, ◌*◌, ◌≤◌}
use Rattle.rules.specs.Laws.Checks.{NoneOut}
use Rattle.range.proofs.passed.Given as goal

abbrev pub invariant-loop-block : goal.invariant-loop-block
invariant-loop-block l = (k : ℕ) → k ≤ 64 * l.block → k ≤ l.n → NoneOut k l.values
