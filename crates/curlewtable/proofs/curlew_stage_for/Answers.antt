-- `curlewtable::curlew_stage_for` meets its contract: what it hands out is the answer of `stages::stage_for`.
use Rattle.fields.specs.Handed.{stage_accepted}
use Rattle.curlewtable.proofs.curlew_stage_for.Goals as goal

pub returns-clause-lowest_stage : goal.returns-clause-lowest_stage
returns-clause-lowest_stage c = λ n. c.stage_for.ensures.lowest_stage _ (stage_accepted _ c.into.ensures n)
