use Rattle.std.proofs.Common.{length, ap, ◌∙◌}
use Rattle.machine.specs.Tests.{plain}
use Rattle.algebra.specs.Table.{laid}
use Rattle.rules.specs.Bytes.{bytes_of, complement, value_bytes}
use Rattle.rules.proofs.Laws.Bytes.{length_bytes_of}
use Rattle.codec.proofs.Bytes.{all_low_first, written}
use Rattle.codec.proofs.put_value.Goals as goal

pub returns : goal.returns
unfolding value_bytes
returns c =
    let a = c.args in
    let bits = c.to_bits.ensures ∙ ap (complement 8) (plain a.z c.ranges.z.sfits) in
    let bytes = c.copy_from_slice.ensures.after ∙ c.to_le_bytes.ensures ∙ all_low_first 8 _ ∙ ap (bytes_of 8) bits in
    written a.at 8 _ a.output.now (ap length bytes ∙ length_bytes_of 8 _) c.requires ∙ ap (λ b. laid a.at b a.output.now) bytes
