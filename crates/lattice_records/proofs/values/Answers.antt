-- The value at c is judged by what in_range said of it: it was handed the value's bits, read back.
use Rattle.std.proofs.Common.{◌≡◌, refl, sym, ap, ◌∙◌, Bool, List, ℕ, ◌+◌, ◌*◌, ◌^◌, ◌<◌, ℤ, w64, to_z, of_z, arith}
use Rattle.std.specs.Int.Signed.{mag}
use Rattle.machine.specs.Held.{returned}
use Rattle.rules.specs.Grid.{in_range}
use Rattle.rules.specs.Answers.{require, first_of, field}
use Rattle.rules.specs.Bytes.{value_at}
use Rattle.rules.proofs.Laws.Checks.{first_of_at, first_of_more}
use Rattle.lattice_records.specs.Judged.{value_check}
use Rattle.lattice_records.proofs.values.Goals as goal

-- what in_range says of the value at byte at, read as z
tested : (file : List ℕ) (at : ℕ) (z : ℤ) (b : Bool) → mag z < 2 ^ 63 → z ≡ value_at file at → b ≡ in_range (to_z w64 (of_z w64 z)) → in_range (value_at file at) ≡ b
tested file at z b fits is e = sym (e ∙ ap in_range (returned fits is))

pub loop-c-init : goal.loop-c-init
unfolding first_of
loop-c-init c = refl

pub returns-then-not-in_range : goal.returns-then-not-in_range
unfolding require
returns-then-not-in_range c =
    let a = c.args in
    let said = tested a.file.now (a.s + 8 * c.loop-c.c) _ _ c.value_at.type_inv c.value_at.ensures c.if-not-in_range.ensures in
    sym (first_of_at (a.cells.m + 3) c.loop-c.c (value_check a.file.now a.s) (field (a.s + 8 * c.loop-c.c)) c.loop-c.invariant (omega arith) (rw said))

pub loop-c-preserved : goal.loop-c-preserved
unfolding require
loop-c-preserved c =
    let a = c.args in
    let said = tested a.file.now (a.s + 8 * c.loop-c.c) _ _ c.value_at.type_inv c.value_at.ensures c.if-not-in_range.ensures in
    first_of_more c.loop-c.c (value_check a.file.now a.s) c.loop-c.invariant (rw said)
