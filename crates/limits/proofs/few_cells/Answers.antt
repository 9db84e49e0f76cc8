-- The shifts lose no bits.
use Rattle.std.proofs.Common.{◌≡◌, ◌*◌, ◌%◌, ◌^◌, ◌≤◌, refl, le-leb}
use Rattle.std.proofs.lemmas.Bool.{lt-leb}
use Rattle.rules.specs.Fit.{columns, rows}
use Rattle.rules.proofs.Laws.Passed.{cells_at_shifted}
use Rattle.survey.specs.Survey.{shape_of}
use Rattle.survey.specs.declared.Shape.{Shape}
use Rattle.limits.proofs.few_cells.Goals as goal

columns_is : (a : Shape) → a.m0 ≤ 16 → a.h ≤ 5 → (a.m0 * 2 ^ a.h) % 2 ^ 64 ≡ columns (shape_of a) a.h
unfolding columns
columns_is a k h = cells_at_shifted a.m0 a.h k h

rows_is : (a : Shape) → a.n0 ≤ 16 → a.h ≤ 5 → (a.n0 * 2 ^ a.h) % 2 ^ 64 ≡ rows (shape_of a) a.h
unfolding rows
rows_is a k h = cells_at_shifted a.n0 a.h k h

pub returns-then-shape-le-MOST_CELLS : goal.returns-then-shape-le-MOST_CELLS
returns-then-shape-le-MOST_CELLS c =
    let a = c.args.shape in
    let across = columns_is a c.requires.0 c.requires.2 in
    rw (rows_is a c.requires.1 c.requires.2, le-leb (columns (shape_of a) a.h) 16 (rw across at c.if-shape-le-MOST_CELLS.true)) refl

pub returns-else-shape-le-MOST_CELLS : goal.returns-else-shape-le-MOST_CELLS
returns-else-shape-le-MOST_CELLS c =
    let a = c.args.shape in
    let across = columns_is a c.requires.0 c.requires.2 in
    rw (across, lt-leb (columns (shape_of a) a.h) 16 (rw across at c.if-shape-le-MOST_CELLS.false)) refl
