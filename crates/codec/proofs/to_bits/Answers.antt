-- The machine's 64 bits of a number are its two's complement in eight bytes.
use Rattle.std.proofs.Common.{ap, ◌∙◌}
use Rattle.machine.specs.Tests.{plain}
use Rattle.rules.specs.Bytes.{complement}
use Rattle.codec.proofs.Bytes.{bits_of}
use Rattle.codec.proofs.to_bits.Goals as goal

pub returns : goal.returns
returns c = c.cast_unsigned.ensures ∙ bits_of _ ∙ ap (complement 8) (plain c.args.z c.ranges.z.sfits)
