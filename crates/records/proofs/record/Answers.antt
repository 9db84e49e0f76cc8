-- Whether the record is complete, and then its mark.
use Rattle.std.proofs.Common.{sym, ◌∙◌, le-leb}
use Rattle.std.proofs.lemmas.Bool.{lt-leb}
use Rattle.rules.specs.Answers.{require, ◌then◌}
use Rattle.rules.specs.Bytes.{record_check}
use Rattle.records.proofs.record.Goals as goal

pub returns-then-file-s : goal.returns-then-file-s
unfolding record_check require ◌then◌
returns-then-file-s c = rw (lt-leb _ _ c.if-file-s.true)

pub returns-then-not-marked : goal.returns-then-not-marked
unfolding record_check require ◌then◌
returns-then-not-marked c = rw (le-leb _ _ c.if-file-s.false, sym c.marked.ensures ∙ c.if-not-marked.true)

pub returns : goal.returns
unfolding record_check require ◌then◌
returns c = rw (le-leb _ _ c.if-file-s.false, sym c.marked.ensures ∙ c.if-not-marked.false)
