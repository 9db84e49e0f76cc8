-- The parts of a record, each laid where the one before ends.
use Rattle.std.proofs.Common.{◌≡◌, refl, ap, ◌∙◌, List, ◌++◌, ℕ, ◌+◌, ◌≤◌, ◌<◌, ℤ, mod-eq_of_lt, length, arith}
use Rattle.std.proofs.Math.ListN.{set}
use Rattle.algebra.specs.Table.{laid, laid_after, set_laid}
use Rattle.machine.specs.Tests.{plain}
use Rattle.rules.specs.Bytes.{bytes_of, value_bytes}
use Rattle.rules.specs.PointFile.{PQ, pq, point_record}
use Rattle.point_writer.proofs.put_point.Goals as goal

-- the parts in order; v is the height as it is handed on
parts : (s x y : ℕ) {z v : ℤ} (q : ℕ) (d : List ℕ) {marked with_x with_y with_z whole : List ℕ} → s + 15 ≤ length d → v ≡ z → q < 256
    → marked ≡ laid s PQ d
    → with_x ≡ laid (s + 2) (bytes_of 2 x) marked
    → with_y ≡ laid (s + 4) (bytes_of 2 y) with_x
    → with_z ≡ laid (s + 6) (value_bytes v) with_y
    → whole ≡ set with_z (s + 14) q
    → whole ≡ laid s (point_record pq (record { x = x; y = y; z = z; q = q })) d
unfolding PQ bytes_of value_bytes point_record
parts s x y {z} q d {with_y = l} h is byte e₁ e₂ e₃ e₄ e₅ =
    let to-x = PQ ++ bytes_of 2 x in
    let to-y = to-x ++ bytes_of 2 y in
    let to-z = to-y ++ value_bytes z in
    let f₂ = e₂ ∙ ap (laid (s + 2) (bytes_of 2 x)) e₁ ∙ laid_after s (s + 2) PQ (bytes_of 2 x) d (omega arith) refl in
    let f₃ = e₃ ∙ ap (laid (s + 4) (bytes_of 2 y)) f₂ ∙ laid_after s (s + 4) to-x (bytes_of 2 y) d (omega arith) refl in
    let f₄ = e₄ ∙ ap (λ v. laid (s + 6) (value_bytes v) l) is ∙ ap (laid (s + 6) (value_bytes z)) f₃ ∙ laid_after s (s + 6) to-y (value_bytes z) d (omega arith) refl in
    e₅ ∙ ap (λ l. set l (s + 14) q) f₄ ∙ set_laid s to-z d q (omega arith) ∙ rw (mod-eq_of_lt byte)

pub returns : goal.returns
unfolding PQ
returns c =
    parts _ _ _ _ _ c.requires (plain _ c.ranges.z.sfits) (omega arith) c.put_mark.ensures c.put_u16.ensures c.put_u16-2.ensures c.put_value.ensures refl
