-- The loop's invariant: the sums of the columns passed lie over the first places of sums.
use Rattle.std.proofs.Common.{◌≡◌}
use Rattle.algebra.specs.Table.{tabulate, over}
use Rattle.rules.specs.Grid.{control}
use Rattle.rules.specs.Refinement as rule
use Rattle.refined_rows.proofs.blend.Given as goal

abbrev pub invariant-loop-s : goal.invariant-loop-s
invariant-loop-s l = l.sums ≡ over (tabulate l.s (λ s. rule.finer (control l.m l.lattice s) l.t)) l.initial.sums
