-- The mark, the row number and the values, laid one after another, are the row's record.
use Rattle.std.proofs.Common.{◌≡◌, refl, ap, ◌∙◌, List, [], ◌∷◌, ◌++◌, ℕ, ◌+◌, ◌-◌, ◌*◌, ◌≤◌, ℤ, pos, length, take, drop, arith}
use Rattle.algebra.specs.Table.{joined, laid, area, get_d_area, joined_same, laid_after}
use Rattle.rules.specs.Grid.{control}
use Rattle.rules.specs.Bytes.{bytes_of, value_bytes}
use Rattle.rules.proofs.Laws.Bytes.{length_bytes_of}
use Rattle.rules.specs.LatticeFile.{LR, row_record, row_length, row_start}
use Rattle.lattice_writer.specs.Written.{bytes_of_values}
use Rattle.lattice_layout.specs.Places.{gap, part_long}
use Rattle.lattice_writer.proofs.put_row.Goals as goal

-- the values of row r are a part of the lattice, k from q on
row_values : (lattice : List ℤ) (m r q k : ℕ) → q ≡ r * (m + 3) → k ≡ m + 3 → q + k ≤ length lattice
    → bytes_of_values (take (q + k - q) (drop q lattice)) (length (take (q + k - q) (drop q lattice))) ≡ joined (m + 3) (λ c. value_bytes (control m lattice c r))
unfolding control area
row_values lattice m r q k place wide room =
    rw (part_long q k lattice room, gap q k, place, wide)
    (joined_same (m + 3) _ _ (λ c h. ap value_bytes (get_d_area (r * (m + 3)) (m + 3) lattice c (pos 0) h)))

record_laid : (lattice : List ℤ) (values d e f g : List ℕ) (m r s : ℕ) → s ≡ row_start m r → s ≤ length d → values ≡ joined (m + 3) (λ c. value_bytes (control m lattice c r))
    → e ≡ laid s (0x4C ∷ 0x52 ∷ []) d → f ≡ laid (s + 2) (bytes_of 2 r) e → g ≡ laid (s + 4) values f
    → g ≡ laid (row_start m r) (row_record m lattice r) d
unfolding row_record LR
record_laid lattice values d e f g m r s start h is p q v =
    rw (← start, ← is)
    (v
    ∙ ap (laid (s + 4) values) (q ∙ ap (laid (s + 2) (bytes_of 2 r)) p ∙ laid_after s (s + 2) LR (bytes_of 2 r) d h refl)
    ∙ laid_after s (s + 4) (LR ++ bytes_of 2 r) values d h (omega (arith, length_bytes_of 2 r)))

pub put_mark-requires : goal.put_mark-requires
unfolding row_length
put_mark-requires c = omega arith

pub put_u16-requires : goal.put_u16-requires
unfolding row_length
put_u16-requires c = omega arith

pub put_values-requires : goal.put_values-requires
unfolding row_length
put_values-requires c =
    let a = c.args in
    rw (c.width-width.ensures, part_long (a.r * (a.cells.m + 3)) (a.cells.m + 3) a.lattice.now c.requires.1) (omega arith)

pub returns : goal.returns
returns c =
    let a = c.args in
    record_laid a.lattice.now _ a.output.now _ _ _ a.cells.m a.r _ c.row_start-s.ensures.0 (omega arith)
    (row_values a.lattice.now a.cells.m a.r _ _ (ap (λ k. a.r * k) c.width-width.ensures) c.width-width.ensures (rw c.width-width.ensures c.requires.1))
    c.put_mark.ensures c.put_u16.ensures c.put_values.ensures
