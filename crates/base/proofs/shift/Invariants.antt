-- The places passed hold the sums.
use Rattle.std.proofs.Common.{◌≡◌, ℕ, List, length, get_or}
use Rattle.std.specs.Prelude.{ℤ, pos, ◌+ℤ◌}
use Rattle.algebra.specs.Table.{tabulate, over}
use Rattle.base.proofs.shift.Given as goal

abbrev pub sum_at : List ℤ → ℤ → ℕ → ℤ
sum_at values b i = get_or values i (pos 0) +ℤ b

abbrev pub invariant-loop-i : goal.invariant-loop-i
invariant-loop-i l = (length l.to ≡ length l.initial.to) × (l.to ≡ over (tabulate l.i (sum_at l.values l.b)) l.initial.to)
