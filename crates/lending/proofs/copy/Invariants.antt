-- The loop's invariant: the places passed hold the values.
use Rattle.std.proofs.Common.{◌≡◌, length, get_or}
use Rattle.std.specs.Prelude.{pos}
use Rattle.algebra.specs.Table.{tabulate, over}
use Rattle.lending.proofs.copy.Given as goal

abbrev pub invariant-loop-i : goal.invariant-loop-i
invariant-loop-i l = (length l.to ≡ length l.initial.to) × (l.to ≡ over (tabulate l.i (λ k. get_or l.values k (pos 0))) l.initial.to)
