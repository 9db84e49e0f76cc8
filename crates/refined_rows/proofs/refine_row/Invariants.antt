-- The loop's invariant: the values of the places passed, two a turn, lie over the first places of row.
use Rattle.std.proofs.Common.{◌≡◌, ℕ, ◌*◌, List, get_or, ℤ, pos}
use Rattle.algebra.specs.Table.{tabulate, over}
use Rattle.rules.specs.Rounding.{near}
use Rattle.rules.specs.Refinement as rule
use Rattle.refined_rows.proofs.refine_row.Given as goal

-- the new value at place s
abbrev pub value : List ℤ → ℕ → ℤ
value sums s = near (rule.finer (λ q. get_or sums q (pos 0)) s) 64

abbrev pub invariant-loop-c : goal.invariant-loop-c
invariant-loop-c l = l.row ≡ over (tabulate (2 * l.c) (value l.sums)) l.initial.row
