-- The number of two entries of the file.
use Rattle.std.proofs.Common.{◌≡◌, ℕ, ◌+◌, ◌*◌, List, get_or, ap, ◌∙◌, arith}
use Rattle.rules.specs.Bytes.{number_at}
use Rattle.rules.specs.Laws.Bytes.{entries}
use Rattle.rules.proofs.Laws.Bytes.{number_at_entries}
use Rattle.codec.proofs.u16_at.Goals as goal

two : (file : List ℕ) (at : ℕ) → get_or file at 0 + get_or file (at + 1) 0 * 256 ≡ number_at 2 file at
unfolding entries
two file at =
    let start : at ≡ at + 0 = omega arith in omega (arith, ap (λ i. get_or file i 0) start, number_at_entries 2 file at)

pub returns : goal.returns
returns c = c.from_le_bytes.ensures ∙ two c.args.file.now c.args.at
