use Rattle.std.proofs.Common.{◌≡◌, ℕ, List, ℤ, ◌∙◌, refl, arith}
use Rattle.algebra.specs.Table.{laid_front}
use Rattle.refined_rows.specs.Rows.{RowsDone, no_row, every_row, row_read, row_room, part_room, row_sums, next_row}
use Rattle.refinement.proofs.refine_within.Goals as goal

-- where the next row begins
begins : {m n : ℕ} {lattice d : List ℤ} {t start there : ℕ} {sums l : List ℤ} → RowsDone m n lattice d 0 t start sums l → there ≡ start → RowsDone m n lattice d 0 t there sums l
begins p e = rw e p

pub loop-t-init : goal.loop-t-init
loop-t-init c = let q = c.requires in begins (no_row _ _ _ _ 0 _ q.few.0 q.stored q.ranged (omega arith) refl) (omega arith)

pub blend-requires : goal.blend-requires
blend-requires c = let p = c.loop-t.invariant in (p.few, row_read p c.loop-t-test.true, p.wide)

pub slice_bounds-refine_row-end : goal.slice_bounds-refine_row-end
slice_bounds-refine_row-end c = omega (arith, row_room c.loop-t.invariant c.loop-t-test.true)

pub refine_row-requires : goal.refine_row-requires
refine_row-requires c =
    let p = c.loop-t.invariant in
    let h = c.loop-t-test.true in
    (p.few, part_room p h, row_sums p h c.blend.ensures)

pub loop-t-preserved : goal.loop-t-preserved
loop-t-preserved c =
    begins (next_row c.loop-t.invariant c.loop-t-test.true c.blend.ensures c.refine_row.ensures) (omega arith)

pub returns : goal.returns
returns c = every_row c.loop-t.invariant (omega arith) ∙ laid_front _ _
