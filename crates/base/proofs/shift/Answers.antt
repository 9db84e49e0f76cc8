use Rattle.std.proofs.Common.{◌≡◌, ℕ, ◌<◌, ◌≤◌, List, length, get_or, length-set, refl, sym, ap, ◌∙◌, arith, to_z, of_z}
use Rattle.std.specs.Prelude.{ℤ, pos, nat_abs}
use Rattle.std.specs.Int.{w64}
use Rattle.algebra.specs.Table.{tabulate, over, over_none, fill_store}
use Rattle.machine.specs.Held.{Number, number, itself, read, plus}
use Rattle.machine.specs.Tests.{plain}
use Rattle.rules.specs.Grid.{limit}
use Rattle.rules.specs.Fit.{shifted}
use Rattle.rules.specs.Laws.Checks.{AllInRange}
use Rattle.base.proofs.shift.Invariants.{sum_at}
use Rattle.base.proofs.shift.Goals as goal

-- the sum of a turn, of values in range
abbrev sum : (values : List ℤ) (b : ℤ) (i : ℕ) → AllInRange (length values) values → nat_abs b ≤ limit → i < length values → Number
sum values b i small least listed = number (plus (read tt (itself (get_or values i (pos 0)) limit (small i listed))) (itself b limit least))

pub loop-i-init : goal.loop-i-init
unfolding tabulate
loop-i-init c = (refl, sym (over_none c.args.to.now))

pub loop-i-preserved : goal.loop-i-preserved
loop-i-preserved c =
    let l = c.loop-i in
    let a = c.args in
    -- b, by its bits, read back
    let b = to_z w64 (of_z w64 a.b) in
    let least : nat_abs b ≤ limit = rw (plain a.b c.ranges.b.sfits) c.requires.2 in (
      simp length-set l.invariant.0,
      fill_store l.i (sum_at a.values.now b) a.to.now (pos 0) (omega arith) l.invariant.1 (read tt (sum a.values.now b l.i c.requires.1 least c.loop-i-test.true).held).is,
    )

pub returns : goal.returns
unfolding shifted
returns c =
    let l = c.loop-i in
    let a = c.args in
    let values = a.values.now in
    let e : l.i ≡ length values = omega arith in
    l.invariant.1
    ∙ ap (λ n. over (tabulate n (sum_at values (to_z w64 (of_z w64 a.b)))) a.to.now) e
    ∙ ap (λ b. over (tabulate (length values) (sum_at values b)) a.to.now) (plain a.b c.ranges.b.sfits)
