-- Each refusal is decided by the side that is out of bounds.
use Rattle.std.proofs.Common.{sym}
use Rattle.rules.specs.Answers.{require}
use Rattle.rules.specs.Calls.{cells_check}
use Rattle.checks.proofs.cells.Goals as goal

pub returns-then-not-within : goal.returns-then-not-within
unfolding cells_check require
returns-then-not-within c = simp (sym c.if-not-within.ensures)

pub returns-then-not-within-2 : goal.returns-then-not-within-2
unfolding cells_check require
returns-then-not-within-2 c = simp (sym c.if-not-within.ensures, sym c.if-not-within-2.ensures)

pub returns : goal.returns
unfolding cells_check require
returns c = simp (sym c.if-not-within.ensures, sym c.if-not-within-2.ensures)
