use Rattle.std.proofs.Common.{length, ap, ◌∙◌}
use Rattle.algebra.specs.Table.{laid}
use Rattle.rules.proofs.Laws.Bytes.{length_bytes_of}
use Rattle.codec.proofs.Bytes.{all_low_first, written}
use Rattle.codec.proofs.put_u16.Goals as goal

pub returns : goal.returns
returns c =
    let a = c.args in
    let bytes = c.copy_from_slice.ensures.after ∙ c.to_le_bytes.ensures ∙ all_low_first 2 a.v in
    written a.at 2 _ a.output.now (ap length bytes ∙ length_bytes_of 2 a.v) c.requires ∙ ap (λ b. laid a.at b a.output.now) bytes
