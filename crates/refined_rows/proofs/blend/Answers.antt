use Rattle.std.proofs.Common.{pos, sym, ◌∙◌, arith}
use Rattle.algebra.specs.Table.{tabulate, fill_store, over_none}
use Rattle.machine.specs.Tests.{plain}
use Rattle.rules.specs.Grid.{control}
use Rattle.rules.specs.Refinement as rule
use Rattle.refined_rows.proofs.Weighed.{learnt, column_weighed}
use Rattle.refined_rows.proofs.blend.Goals as goal

pub loop-s-init : goal.loop-s-init
unfolding tabulate
loop-s-init c = sym (over_none c.args.sums.now)

pub loop-s-preserved : goal.loop-s-preserved
unfolding rule.finer
loop-s-preserved c =
    let l = c.loop-s in
    let a = c.args in
    fill_store l.s (λ s. rule.finer (control a.m a.lattice.now s) a.t) a.sums.now (pos 0) (omega arith) l.invariant
    (plain c.masked.result c.masked.type_inv ∙ c.masked.ensures ∙ learnt (column_weighed l.s c.requires.1 (omega arith)))
