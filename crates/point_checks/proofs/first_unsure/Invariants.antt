-- The loop keeps: all before i are above 0. So it doesn't come to the end.
use Rattle.std.proofs.Common.{ℕ, ◌≤◌, ◌<◌, get_or}
use Rattle.point_checks.proofs.first_unsure.Given as goal

abbrev pub invariant-loop-i : goal.invariant-loop-i
invariant-loop-i l = (k : ℕ) → k < l.i → 1 ≤ get_or l.qs k 0
