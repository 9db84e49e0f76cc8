-- A band more is walked: passed over, or worked out.
use Rattle.std.proofs.Common.{refl, take, arith}
use Rattle.machine.specs.Tests.{plain}
use Rattle.strips.specs.Reading.{below, ring_in_range}
use Rattle.strips.specs.declared.taps.Columns.{Columns}
use Rattle.bands.specs.Bands.{said_yes}
use Rattle.bands.proofs.Rows.{rows_before}
use Rattle.bands.proofs.Walk.{CellsOf, cells_of, rising, span, rows_stored, cells_before, cells_behind, node_among, threshold_of, passed_over, worked_out}
use Rattle.bands.proofs.bands_above.Goals as goal

-- the cells that are looked through are the strip's
looked : (p : Columns) → CellsOf p.strip (take p.strip.w p.cells.now)
looked p = cells_of p.strip p.cells.now p.taps.now p.many p.tapped

pub look-requires : goal.look-requires
look-requires c =
    let p = c.args.columns.now in
    let s = p.strip in
    let cells = looked p in
    let w = c.loop-j.invariant.1 in
    let at = c.locate-cell.ensures in
    (omega (arith, cells.many, c.requires.2), rising s cells, span s cells c.requires.2, rows_stored s p.grounded _ (below s at), omega (arith, w.seen_most c.loop-j.j (omega arith), at.cell_is), w.rows)

pub due-due-requires : goal.due-due-requires
due-due-requires c =
    let p = c.args.columns.now in
    let cells = looked p in
    (omega (arith, cells.many, c.requires.2), rising p.strip cells)

pub refill-kept-requires : goal.refill-kept-requires
refill-kept-requires c =
    let p = c.args.columns.now in
    let cells = looked p in
    let w = c.loop-j.invariant.1 in
    let at = c.locate-cell.ensures in
    (below p.strip at, c.if-due.true, rw cells.many at c.due-due.ensures.1, omega (arith, w.kept_most c.loop-j.j (omega arith), at.cell_is), w.held)

pub band_above-requires : goal.band_above-requires
band_above-requires c =
    let p = c.args.columns.now in
    let e = c.band_end-end.ensures in
    let cells = looked p in
    let to_most = rw cells.many at c.due-due.ensures.1 in
    (rows_before e.1 c.requires.0, e.2, to_most, λ i m n. ring_in_range p.strip c.locate-cell.ensures p.grounded c.refill-kept.ensures.3 i m n to_most)

pub returns-then-band_above : goal.returns-then-band_above
returns-then-band_above c =
    let cells = looked c.args.columns.now in
    let t = threshold_of refl (plain c.args.most c.ranges.most.sfits) c.requires.3 in
    let found = (c.band_above.ensures _ _ c.refill-kept.ensures.3 t).yes c.if-band_above.true in
    said_yes (node_among c.band_end-end.ensures.1 (rw cells.many at c.due-due.ensures.1) found)

pub loop-j-preserved-else-band_above : goal.loop-j-preserved-else-band_above
loop-j-preserved-else-band_above c =
    let p = c.args.columns.now in
    let s = p.strip in
    let cells = looked p in
    let e = c.band_end-end.ensures in
    let cut = c.due-due.ensures in
    let rows = c.look.ensures in
    let held = c.refill-kept.ensures in
    let t = threshold_of (plain c.args.stage c.ranges.stage.sfits) (plain c.args.most c.ranges.most.sfits) c.requires.3 in
    let low = (c.band_above.ensures _ _ held.3 t).no c.if-band_above.false in
    let before = cells_before s cells _ rows.1 cut.2 cut.0 in
    let behind = cells_behind s cells _ rows.1 cut.2 in
    (e.1, worked_out s cells c.loop-j.invariant.1 c.locate-cell.ensures.cell_is e.0 e.2 (rows_before e.1 c.requires.0) rows (rw cells.many at cut.0) (rw cells.many at cut.1) before behind low held.0 held.1 held.2 held.3)

pub loop-j-preserved : goal.loop-j-preserved
loop-j-preserved c =
    let p = c.args.columns.now in
    let s = p.strip in
    let cells = looked p in
    let e = c.band_end-end.ensures in
    let cut = c.due-due.ensures in
    let rows = c.look.ensures in
    let before = cells_before s cells _ rows.1 cut.2 cut.0 in
    let behind = cells_behind s cells _ rows.1 cut.2 in
    (e.1, passed_over s cells c.loop-j.invariant.1 c.locate-cell.ensures.cell_is e.0 e.2 (rows_before e.1 c.requires.0) rows (rw cells.many at cut.0) (rw cells.many at cut.1) before behind c.if-due.false)
