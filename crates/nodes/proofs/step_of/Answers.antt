-- Step 0 stands for the default, any other for itself, and neither is 0.
use Rattle.std.proofs.Common.{refl, sym, arith}
use Rattle.rules.specs.Calls.{default_step, step_of}
use Rattle.rules.proofs.Laws.Raster.{step_given}
use Rattle.nodes.proofs.step_of.Goals as goal

pub returns-then-step-eq0 : goal.returns-then-step-eq0
unfolding step_of default_step
returns-then-step-eq0 c = (rw c.if-step-eq0.true refl, omega arith)

pub returns-else-step-eq0 : goal.returns-else-step-eq0
returns-else-step-eq0 c = (sym (step_given _ _ (omega arith)), omega arith)
