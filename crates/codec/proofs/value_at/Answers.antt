-- The eight bytes, read as a number, and that as two's complement.
use Rattle.std.proofs.Common.{◌≡◌, ℕ, ◌+◌, ◌-◌, ◌<◌, List, take, drop, get_or, ap, ◌∙◌, arith, get_or-take, get_or-drop}
use Rattle.machine.specs.Tests.{plain}
use Rattle.rules.specs.Bytes.{uncomplement, value_at}
use Rattle.codec.proofs.Bytes.{eight, read_bits}
use Rattle.codec.proofs.value_at.Goals as goal

part : (file bytes : List ℕ) (at : ℕ) → bytes ≡ take (at + 8 - at) (drop at file) → (i : ℕ) → i < 8 → get_or bytes i 0 ≡ get_or file (at + i) 0
part file bytes at e i l = rw e (grind (arith, get_or-take, get_or-drop))

pub returns : goal.returns
unfolding value_at
returns c =
    let a = c.args in
    plain c.from_le_bytes.result c.from_le_bytes.type_inv
    ∙ c.from_le_bytes.ensures
    ∙ read_bits _
    ∙ ap (uncomplement 8) (eight a.file.now _ a.at (part a.file.now _ a.at c.copy_from_slice.ensures.after))
