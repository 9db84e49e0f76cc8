-- The ring has the four lattice rows of the row's cell, and the nodes are laid at the row's place.
use Rattle.std.proofs.Common.{◌≡◌, ap, ◌∙◌, ◌++◌, List, ℕ, ◌+◌, ◌-◌, ◌*◌, ◌≤◌, ℤ, length, arith, take, drop, length-take, length-drop}
use Rattle.algebra.specs.Table.{length_tabulate, laid_part}
use Rattle.basis.specs.Sums.{basis_asked}
use Rattle.strips.specs.Strips.{node_at}
use Rattle.strips.specs.Reading.{from_ringed, below, ring_in_range, on_row, row_weight}
use Rattle.strips.proofs.Row.{row_filled}
use Rattle.strips.proofs.ring.strip_row.Goals as goal

pub overflow_add-last : goal.overflow_add-last
overflow_add-last c = let s = c.args.columns.now.strip in omega (arith, below s c.locate-up.ensures, s.grid.gridded.n_most)

pub advance-requires : goal.advance-requires
advance-requires c =
    let p = c.requires in
    let at = c.locate-up in
    let most : c.args.next ≤ at.result.cell + 4 = omega (arith, p.next_most, at.ensures.cell_is) in
    let first = c.max.ensures in
    (omega arith, omega arith, omega (arith, most, first), omega (arith, below c.args.columns.now.strip at.ensures), from_ringed _ most first p.ringed)

pub basis_of-b-requires : goal.basis_of-b-requires
basis_of-b-requires c = basis_asked c.unit.ensures (on_row c.args.columns.now.strip _ c.requires.inside) c.locate-up.ensures

-- the part of the output that the row has its place in
place : (start w : ℕ) (output : List ℤ) → start + w ≤ length output → length (take (start + w - start) (drop start output)) ≡ w
place start w output h = simp (length-take, length-drop) (omega arith)

pub node_row-requires : goal.node_row-requires
node_row-requires c =
    let p = c.requires in
    let s = c.args.columns.now.strip in
    let found = c.locate-up.ensures in
    let long = place _ _ c.args.output.now p.fits in (
      omega (arith, below s found, s.grid.gridded.n_most),
      s.grid.gridded.e_most,
      row_weight s _ p.inside found c.unit.ensures c.basis_of-b.ensures,
      omega (arith, long, s.inside.width),
      λ i h. ring_in_range s found c.args.columns.now.grounded c.advance.ensures.0 i (omega arith) (omega (arith, long)) (omega arith),
    )

pub returns : goal.returns
returns c =
    let p = c.requires in
    let s = c.args.columns.now.strip in
    let found = c.locate-up.ensures in
    let n = c.args.j * s.nodes.columns + s.column in
    let w = s.w in
    let long = place n w c.args.output.now p.fits in
    record {
      next_is = ap (λ k. k + 4) found.cell_is;
      ringed = c.advance.ensures.0;
      filled =
          ap (λ l. take n c.args.output.now ++ (l ++ drop (n + w - n) (drop n c.args.output.now))) (rw long at c.node_row.ensures)
          ∙ laid_part n (n + w - n) _ _ (rw (length_tabulate w (node_at s.grid.e c.basis_of-b.result c.advance.new.ring c.locate-up.result.cell)) (omega arith)) (omega (arith, p.fits))
          ∙ row_filled s _ p.inside found c.unit.ensures c.basis_of-b.ensures c.advance.ensures.0 _ _;
    }
