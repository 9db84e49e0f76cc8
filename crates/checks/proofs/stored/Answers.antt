-- Where the lattice is long enough, the scan is the last check.
use Rattle.std.proofs.Common.{◌∙◌}
use Rattle.std.proofs.lemmas.Bool.{lt-leb, le-leb}
use Rattle.rules.specs.Answers.{require, ◌then◌}
use Rattle.checks.specs.Ready.{stored_check}
use Rattle.checks.proofs.stored.Goals as goal

pub returns-then-values-controls : goal.returns-then-values-controls
unfolding stored_check require ◌then◌
returns-then-values-controls c = rw (lt-leb _ _ (rw c.controls.ensures at c.if-values-controls.true))

pub returns : goal.returns
unfolding stored_check require ◌then◌
returns c = c.lattice.ensures ∙ rw (le-leb _ _ (rw c.controls.ensures at c.if-values-controls.false))
