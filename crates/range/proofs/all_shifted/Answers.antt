use Rattle.std.proofs.Common.{◌≡◌, ◌≤◌, length, get_or, ℤ, pos, nat_abs, sym, ap, ◌∙◌, arith, w64, to_z, of_z}
use Rattle.machine.specs.Held.{Number, number, itself, read, plus}
use Rattle.machine.specs.Tests.{plain}
use Rattle.rules.specs.Grid.{limit, in_range}
use Rattle.rules.proofs.Laws.Base.{shifted_at}
use Rattle.rules.proofs.Laws.Checks.{none_out_start}
use Rattle.range.specs.Scan.{scan_more}
use Rattle.range.proofs.all_shifted.Goals as goal

-- the sum of a turn, b being read back from its bits
abbrev sum : (z b : ℤ) → nat_abs z ≤ limit → nat_abs b ≤ limit → Number
sum z b small little = number (plus (read tt (itself z limit small)) (itself b limit little))

pub loop-z-init : goal.loop-z-init
loop-z-init c = λ r. none_out_start _ (λ i. r)

pub loop-z-preserved : goal.loop-z-preserved
loop-z-preserved c =
    let l = c.loop-z in
    let values = c.args.values.now in
    let b = to_z w64 (of_z w64 c.args.b) in
    let turn = sum (get_or values l.z-index (pos 0)) b (c.requires.0 l.z-index c.loop-z-test.true) (rw (plain c.args.b c.ranges.b.sfits) c.requires.1) in
    let test = c.range_bits-bits.ensures ∙ ap in_range ((read tt turn.held).is ∙ sym (shifted_at b values l.z-index c.loop-z-test.true)) in
    scan_more l.z-index l.bits _ _ l.invariant test

pub returns : goal.returns
returns c =
    let l = c.loop-z in
    let last : length c.args.values.now ≡ l.z-index = omega arith in
    rw (last, ← plain c.args.b c.ranges.b.sfits) l.invariant
