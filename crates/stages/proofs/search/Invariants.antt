-- The loop keeps: the stage is in the bracket, which has at most 2^left numbers.
use Rattle.std.proofs.Common.{◌-◌, ◌*◌, ◌^◌, ◌≤◌, ◌<◌, length}
use Rattle.stages.proofs.Bracket.{Bracket}
use Rattle.stages.proofs.search.Given as goal

abbrev pub invariant-loop-low : goal.invariant-loop-low
invariant-loop-low l =
    Bracket l.heights (length l.heights) l.needed l.low l.high l.most × (l.high - l.low < 2 ^ l.left) × (0 < l.most) × (l.most ≤ 8_193 * 8_193) × (l.low ≤ 1_000_000_000_000_000_000)

-- the tries that are left
abbrev pub decreases-loop-low : goal.decreases-loop-low
decreases-loop-low l = l.left
