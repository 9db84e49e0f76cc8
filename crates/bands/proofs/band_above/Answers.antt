-- A row of the band, and what its y sums tell of its nodes.
use Rattle.std.proofs.Common.{◌≡◌, ◌∙◌, ◌+◌, ◌*◌, ◌^◌, ◌≤◌, ◌≤ℤ◌, arith}
use Rattle.machine.specs.Tests.{plain}
use Rattle.basis.specs.Sums.{basis_asked}
use Rattle.below.specs.Ranges.{above_more}
use Rattle.strips.specs.Strips.{height_at}
use Rattle.strips.specs.Reading.{on_row, below, row_weight}
use Rattle.bands.specs.Bands.{said_yes, said_no}
use Rattle.bands.proofs.Nodes.{node_high, node_low}
use Rattle.bands.proofs.band_above.Goals as goal
use Rattle.bands.proofs.band_above.Goals.{After-locate-up}

module _ (c : After-locate-up) where
  inside : c.args.s.nodes.y0 + c.args.s.nodes.step * c.loop-j.j ≤ 2 ^ c.args.s.grid.e * c.args.s.grid.cells.n
  inside = c.requires.0.inside c.loop-j.j c.loop-j-test.true

  in_cell : c.locate-up.result.cell ≡ c.args.cell
  in_cell = c.locate-up.ensures.cell_is ∙ c.requires.1.one c.loop-j.j c.loop-j.auto.j c.loop-j-test.true

pub basis_of-b-requires : goal.basis_of-b-requires
basis_of-b-requires c = basis_asked c.unit-unit.ensures (on_row c.args.s c.loop-j.j (inside c)) c.locate-up.ensures

pub row_above-requires : goal.row_above-requires
row_above-requires c =
    let at = (goal.at.row_above-requires c).After-locate-up in
    let p = c.requires in
    let s = c.args.s in (
      omega (arith, in_cell at, below s c.locate-up.ensures, s.grid.gridded.n_most),
      row_weight s c.loop-j.j (inside at) c.locate-up.ensures c.unit-unit.ensures c.basis_of-b.ensures,
      omega (arith, p.2, s.inside.width),
      p.3,
    )

pub returns-then-row_above : goal.returns-then-row_above
returns-then-row_above c l stage has t =
    let at = (goal.at.returns-then-row_above c).After-locate-up in
    let found = c.row_above.ensures.yes c.if-row_above.true in
    said_yes (record {
      j = c.loop-j.j;
      i = found.i;
      a_j = c.loop-j.auto.j;
      j_b = c.loop-j-test.true;
      from_i = found.from_i;
      i_to = found.i_to;
      high = node_high c.args.s c.loop-j.j (inside at) c.locate-up.ensures c.unit-unit.ensures c.basis_of-b.ensures (in_cell at) has t found.i found.from_i found.i_to (rw (plain c.args.most c.ranges.most.sfits) at found.high);
    })

pub loop-j-preserved : goal.loop-j-preserved
loop-j-preserved c l stage has t =
    let at = (goal.at.loop-j-preserved c).After-locate-up in
    let a = c.args in
    let low = (c.row_above.ensures.no c.if-row_above.false).low in
    record {
      low = λ j i h k m n.
          above_more (λ j. height_at a.s l j (a.s.column + i) ≤ℤ stage) a.start c.loop-j.j (λ j h k. (c.loop-j.invariant l stage has t).low j i h k m n)
          (node_low a.s c.loop-j.j (inside at) c.locate-up.ensures c.unit-unit.ensures c.basis_of-b.ensures (in_cell at) has t i m n (low i m n)) j h k;
    }

pub returns : goal.returns
returns c l stage has t =
    let had = c.loop-j.invariant l stage has (rw (plain c.args.most c.ranges.most.sfits) t) in
    said_no (record { low = λ j i h k m n. had.low j i h (omega (arith, k, c.loop-j-test.false)) m n })
