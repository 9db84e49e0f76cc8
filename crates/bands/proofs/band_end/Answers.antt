-- The last row of cells has all rows from j on, any other those before its last position.
use Rattle.std.proofs.Common.{le_refl, arith}
use Rattle.bands.proofs.Rows.{row_below, last_band, next_shifted, row_before, end_past, end_band}
use Rattle.bands.proofs.band_end.Goals as goal

pub overflow_add-cell : goal.overflow_add-cell
overflow_add-cell c = let s = c.args.s in omega (arith, row_below s _ c.requires.2, s.grid.gridded.n_most)

pub returns-then-cell-s : goal.returns-then-cell-s
returns-then-cell-s c = let p = c.requires in (p.1, le_refl _, last_band c.args.s _ p.2 c.if-cell-s.true _)

pub overflow_add-last : goal.overflow_add-last
overflow_add-last c = let s = c.args.s in omega (arith, row_below s _ c.requires.2, s.grid.gridded.n_most)

pub overflow_sub-last : goal.overflow_sub-last
overflow_sub-last c = let p = c.requires.2 in let s = c.args.s in rw (next_shifted s _ p) (omega (arith, row_before s _ p c.if-cell-s.false))

pub overflow_sub-last-2 : goal.overflow_sub-last-2
overflow_sub-last-2 c = let p = c.requires.2 in let s = c.args.s in rw (next_shifted s _ p) (omega (arith, row_before s _ p c.if-cell-s.false))

pub returns : goal.returns
returns c =
    let p = c.requires in
    let s = c.args.s in
    let is = rw (next_shifted s _ p.2) at c.min.ensures in
    (end_past s _ p.2 c.if-cell-s.false p.0 _ is p.1, omega (arith, is), end_band s _ p.2 c.if-cell-s.false p.0 _ is)
