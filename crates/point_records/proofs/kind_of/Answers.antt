-- The kind is PQ where that mark stands first.
use Rattle.std.proofs.Common.{sym, ◌∙◌}
use Rattle.rules.specs.PointFile.{PQ, kind_of}
use Rattle.point_records.proofs.kind_of.Goals as goal

pub returns-then-marked : goal.returns-then-marked
unfolding kind_of PQ
returns-then-marked c = rw (sym c.marked.ensures ∙ c.if-marked.true)

pub returns-else-marked : goal.returns-else-marked
unfolding kind_of PQ
returns-else-marked c = rw (sym c.marked.ensures ∙ c.if-marked.false)
