-- The two numbers that it joins by "or" are the 64 bits of how far z is from either end of the range.
use Rattle.std.proofs.Common.{◌≡◌, ◌+◌, ◌%◌, ◌^◌, ap, ◌∙◌, arith}
use Rattle.machine.specs.Tests.{plain}
use Rattle.rules.specs.Bytes.{complement}
use Rattle.rules.specs.Grid.{limit}
use Rattle.range.specs.Scan.{range_bits}
use Rattle.range.proofs.range_bits.Goals as goal

pub returns : goal.returns
returns c =
    let z = c.args.z in
    let fits = c.ranges.z.sfits in
    let bits : c.to_bits-bits.result ≡ complement 8 z = c.to_bits-bits.ensures ∙ ap (complement 8) (plain z fits) in
    range_bits z _ _ (record { from_least = ap (λ v. (v + limit) % 2 ^ 64) bits; to_greatest = omega arith; fits = omega arith }) fits
