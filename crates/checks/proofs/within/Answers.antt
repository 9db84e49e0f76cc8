-- Each answer is decided by the tests that led to it.
use Rattle.std.proofs.lemmas.Bool.{lt-leb, le-leb}
use Rattle.rules.specs.Grid.{within}
use Rattle.checks.proofs.within.Goals as goal

pub returns-then-low-v : goal.returns-then-low-v
unfolding within
returns-then-low-v c = simp (le-leb _ _ c.if-low-v.true)

pub returns-else-low-v : goal.returns-else-low-v
unfolding within
returns-else-low-v c = simp (lt-leb _ _ c.if-low-v.false)
