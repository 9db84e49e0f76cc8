-- The loop keeps: no point before i is refused, and the sum is that of their heights.
use Rattle.std.proofs.Common.{◌≡◌, ℕ, ◌<◌}
use Rattle.std.proofs.Math.Option.{none}
use Rattle.rules.specs.Fit.{total}
use Rattle.point_checks.specs.Spots.{spot_at}
use Rattle.point_checks.proofs.spots.Given as goal

abbrev pub invariant-loop-i : goal.invariant-loop-i
invariant-loop-i l =
    ((k : ℕ) → k < l.i → spot_at l.fn.cells.m l.fn.cells.n l.xs l.ys l.zs k ≡ none) × (l.sum ≡ total l.i l.zs)
