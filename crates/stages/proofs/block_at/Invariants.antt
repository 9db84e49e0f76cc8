-- The sum has what the nodes passed add.
use Rattle.std.proofs.Common.{◌≡◌, ◌+◌, ◌*◌}
use Rattle.rules.specs.Storage.{depths}
use Rattle.rules.specs.Laws.Stage.{wets}
use Rattle.stages.proofs.block_at.Given as goal

abbrev pub invariant-loop-height : goal.invariant-loop-height
invariant-loop-height l = l.sum ≡ depths l.height-index l.block l.stage + wets l.height-index l.block l.stage * 1_099_511_627_776
