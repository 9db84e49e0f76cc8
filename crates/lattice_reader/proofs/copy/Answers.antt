-- Each row's control values follow those of the rows before it.
use Rattle.std.proofs.Common.{◌≡◌, sym, ap, ap₂, ◌∙◌, List, ◌++◌, ℕ, ◌+◌, ◌*◌, ◌-◌, ◌≤◌, ℤ, length, take, drop, zero-mul, arith}
use Rattle.std.proofs.Math.Nat.{mul_comm}
use borrow.Rule.Slice.PartMut.{put_mid, Post-is}
use Rattle.algebra.specs.Table.{tabulate, tabulate_same, over, over_none, fill_part}
use Rattle.rules.specs.Grid.{controls, store}
use Rattle.rules.specs.LatticeFile.{row_start, row_length}
use Rattle.rules.proofs.Laws.Surface.{at_place}
use Rattle.lattice_reader.specs.Read.{values_from}
use Rattle.lattice_layout.specs.Places.{lattice_row, file_row, gap, part_long}
use Rattle.lattice_reader.proofs.copy.Invariants.{value, stored}
use Rattle.lattice_reader.proofs.copy.Goals as goal
use Rattle.lattice_reader.proofs.copy.Goals.{In-loop-r}

-- what row r, whose places are k from r * k on, makes of an output that is filled up to it
more : (file : List ℕ) (m r k s : ℕ) (d e v : List ℤ) → k ≡ m + 3 → s ≡ row_start m r → r * k + k ≤ length e → length e ≡ length d
    → e ≡ over (tabulate (r * k) (stored file m)) d
    → v ≡ over (values_from file (s + 4) (length (take (r * k + k - r * k) (drop (r * k) e)))) (take (r * k + k - r * k) (drop (r * k) e))
    → put_mid (r * k) (r * k + k - r * k) e v ≡ over (tabulate ((r + 1) * k) (stored file m)) d
more file m r k s d e v wide start room long before new =
    ap (λ u. take q e ++ (v ++ u)) (Post-is q (q + k) e (omega arith))
    ∙ rw (next, new, part_long q k e room, gap q k, entries, before) (fill_part q k (stored file m) d (omega arith))
  where
    q : ℕ
    q = r * k

    next : (r + 1) * k ≡ q + k
    next = omega arith

    entries : values_from file (s + 4) k ≡ tabulate k (λ i. stored file m (q + i))
    entries = rw (start, wide) (tabulate_same (m + 3) _ _ (λ i l. sym (at_place m (value file m) i r l)))

module _ (c : In-loop-r) where
  -- there is room for row r
  room : c.loop-r.r * c.width-width.result + c.width-width.result ≤ length c.loop-r.output
  room = rw c.width-width.ensures (omega (arith, lattice_row c.args.cells.m c.args.cells.n c.loop-r.r (omega arith)))

  -- and the file has it
  held : row_start c.args.cells.m c.loop-r.r + row_length c.args.cells.m ≤ length c.args.file.now
  held = omega (arith, file_row c.args.cells.m c.args.cells.n c.loop-r.r (omega arith))

pub loop-r-init : goal.loop-r-init
unfolding tabulate
loop-r-init c = rw (zero-mul c.width-width.result) (sym (over_none _))

pub slice_bounds-copy_row-end : goal.slice_bounds-copy_row-end
slice_bounds-copy_row-end c = omega (arith, room (goal.at.slice_bounds-copy_row-end c).In-loop-r)

pub copy_row-requires : goal.copy_row-requires
unfolding row_length
copy_row-requires c =
    let k = c.width-width.result in
    rw (part_long (c.loop-r.r * k) k c.loop-r.output (room (goal.at.copy_row-requires c).In-loop-r))
    (omega (arith, held (goal.at.copy_row-requires c).In-loop-r))

pub loop-r-preserved : goal.loop-r-preserved
loop-r-preserved c =
    let a = c.args in
    more a.file.now a.cells.m c.loop-r.r _ _ a.output.now c.loop-r.output _ c.width-width.ensures c.row_start.ensures.0
    (room (goal.at.loop-r-preserved c).In-loop-r) c.loop-r.auto.output c.loop-r.invariant c.copy_row.ensures

pub returns : goal.returns
unfolding store controls
returns c =
    let a = c.args in
    let all : c.loop-r.r ≡ a.cells.n + 3 = omega arith in
    let last : (a.cells.m + 3) * (a.cells.n + 3) ≡ c.loop-r.r * c.width-width.result = mul_comm (a.cells.m + 3) (a.cells.n + 3) ∙ sym (ap₂ ◌*◌ all c.width-width.ensures) in
    rw last c.loop-r.invariant
