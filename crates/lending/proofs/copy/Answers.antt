-- A store is one value more.
use Rattle.std.proofs.Common.{◌≡◌, length, get_or, pos, refl, sym, ap, ◌∙◌, arith, length-set}
use Rattle.std.proofs.Math.Seq.{take-length}
use Rattle.algebra.specs.Table.{tabulate, over, over_none, fill_store, tabulate_take}
use Rattle.machine.specs.Tests.{plain}
use Rattle.lending.proofs.copy.Goals as goal

pub loop-i-init : goal.loop-i-init
unfolding tabulate
loop-i-init c = (refl, sym (over_none c.args.to.now))

pub loop-i-preserved : goal.loop-i-preserved
loop-i-preserved c =
    let l = c.loop-i in
    let values = c.args.values.now in (
      simp length-set l.invariant.0,
      fill_store l.i (λ k. get_or values k (pos 0)) c.args.to.now (pos 0) (omega arith) l.invariant.1 (plain (get_or values l.i (pos 0)) (omega arith)),
    )

pub returns : goal.returns
returns c =
    let l = c.loop-i in
    let values = c.args.values.now in
    let e : l.i ≡ length values = omega arith in
    l.invariant.1
    ∙ ap (λ r. over r c.args.to.now) (ap (λ n. tabulate n (λ k. get_or values k (pos 0))) e ∙ tabulate_take (length values) values (pos 0) (omega arith) ∙ take-length values)
