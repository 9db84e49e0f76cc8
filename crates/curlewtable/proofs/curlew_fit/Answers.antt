-- `curlewtable::curlew_fit` meets its contract: what it hands out is the answer of `fit::fit`, and demand 3 is kept where its number is that of an acceptance.
use Rattle.rules.specs.Demand3.{Demand3}
use Rattle.fields.specs.Handed.{cells_accepted}
use Rattle.curlewtable.proofs.curlew_fit.Goals as goal

pub returns-clause-close_everywhere : goal.returns-clause-close_everywhere
unfolding Demand3
returns-clause-close_everywhere c = λ z. c.fit.ensures.stated_distance _ (cells_accepted _ c.into.ensures z)
