-- Once the point's record stands, each refusal is decided by the test of the field that led to it.
use Rattle.std.proofs.Common.{◌≡◌, sym, ap, ◌∙◌, ◌+◌, ◌≤◌, length, arith}
use Rattle.std.proofs.Math.Option.{none}
use Rattle.std.proofs.lemmas.Result.{err_from_is_err_and}
use Rattle.machine.specs.Held.{returned}
use Rattle.rules.specs.Grid.{in_range}
use Rattle.rules.specs.Answers.{◌then◌}
use Rattle.rules.specs.Bytes.{value_at, record_check}
use Rattle.rules.specs.PointFile.{mark_of, size_of, file_shape, point_record_check}
use Rattle.rules.proofs.Laws.Checks.{then_none}
use Rattle.rules.proofs.Laws.Bytes.{record_fits}
use Rattle.rules.proofs.Laws.PointFields.{length_mark, length_last, start_most}
use Rattle.point_records.specs.Read.{ruled}
use Rattle.point_records.specs.Fields.{fields, checks, past_right, past_top, out, unsure, fine}
use Rattle.point_records.proofs.Measure.point.Goals as goal
use Rattle.point_records.proofs.Measure.point.Goals.{After-start-s, In_ok-record, After-in_range}

-- what is checked of the record that starts there
by_start : (c : After-start-s) → point_record_check (file_shape c.args.self.now.file.now) c.args.self.now.file.now c.args.i
    ≡ (record_check (mark_of (ruled c.args.self.now.kind)) c.args.self.now.file.now c.start-s.result (size_of (ruled c.args.self.now.kind))
    then fields c.args.self.now.file.now (ruled c.args.self.now.kind) c.args.self.now.right c.args.self.now.top c.start-s.result)
by_start c = checks c.args.self.now.file.now _ _ _ _ c.start-s.result c.args.self.now.measured c.start-s.ensures.value

-- the record stands where `record` refused nothing
module _ (c : In_ok-record) where
  stands : record_check (mark_of (ruled c.args.self.now.kind)) c.args.self.now.file.now c.start-s.result (size_of (ruled c.args.self.now.kind)) ≡ none
  stands = sym c.in_ok-record.ensures

  complete : c.start-s.result + size_of (ruled c.args.self.now.kind) ≤ length c.args.self.now.file.now
  complete = record_fits (mark_of (ruled c.args.self.now.kind)) (length_mark (ruled c.args.self.now.kind)) c.args.self.now.file.now c.start-s.result (size_of (ruled c.args.self.now.kind)) stands

  long : c.start-s.result + 14 ≤ length c.args.self.now.file.now
  long = omega (arith, complete, length_last (ruled c.args.self.now.kind) 0)

  judged : point_record_check (file_shape c.args.self.now.file.now) c.args.self.now.file.now c.args.i ≡ fields c.args.self.now.file.now (ruled c.args.self.now.kind) c.args.self.now.right c.args.self.now.top c.start-s.result
  judged = by_start (goal.at.In_ok-record c).After-start-s ∙ then_none _ _ (sym c.in_ok-record.ensures)

-- in_range was handed the value's bits, read back
tested : (c : After-in_range) → c.in_range.result ≡ in_range (value_at c.args.self.now.file.now (c.start-s.result + 6))
tested c = c.in_range.ensures ∙ ap in_range (returned c.value_at.type_inv c.value_at.ensures)

pub start-s-requires : goal.start-s-requires
start-s-requires c = omega (arith, start_most (ruled c.args.self.now.kind) c.args.i (omega arith))

pub record-requires : goal.record-requires
record-requires c = omega arith

pub returns-in_err-record : goal.returns-in_err-record
unfolding ◌then◌
returns-in_err-record c =
    let p = err_from_is_err_and c.from_residual.result c.from_residual.ensures.1 in
    rw (p.1, p.2, by_start (goal.at.returns-in_err-record c).After-start-s, sym c.in_err-record.ensures)

pub u16_at-requires : goal.u16_at-requires
u16_at-requires c = omega (arith, long (goal.at.u16_at-requires c).In_ok-record)

pub returns-then-self-u16_at : goal.returns-then-self-u16_at
returns-then-self-u16_at c = sym (judged (goal.at.returns-then-self-u16_at c).In_ok-record ∙ past_right _ _ _ _ _ (omega arith))

pub u16_at-requires-2 : goal.u16_at-requires-2
u16_at-requires-2 c = omega (arith, long (goal.at.u16_at-requires-2 c).In_ok-record)

pub returns-then-self-u16_at-2 : goal.returns-then-self-u16_at-2
returns-then-self-u16_at-2 c = sym (judged (goal.at.returns-then-self-u16_at-2 c).In_ok-record ∙ past_top _ _ _ _ _ (omega arith) (omega arith))

pub value_at-requires : goal.value_at-requires
value_at-requires c = omega (arith, long (goal.at.value_at-requires c).In_ok-record)

pub returns-then-not-in_range : goal.returns-then-not-in_range
returns-then-not-in_range c =
    let p = goal.at.returns-then-not-in_range c in
    sym (judged p.In_ok-record ∙ out _ _ _ _ _ (omega arith) (omega arith) (sym (tested p.After-in_range) ∙ c.if-not-in_range.true))

pub confidence-requires : goal.confidence-requires
confidence-requires c = complete (goal.at.confidence-requires c).In_ok-record

pub returns-then-confidence-eq0 : goal.returns-then-confidence-eq0
returns-then-confidence-eq0 c =
    let p = goal.at.returns-then-confidence-eq0 c in
    sym (judged p.In_ok-record ∙ unsure _ _ _ _ _ (omega arith) (omega arith) (sym (tested p.After-in_range) ∙ c.if-not-in_range.false) c.confidence.ensures c.if-confidence-eq0.true)

pub returns : goal.returns
returns c =
    let p = goal.at.returns c in
    sym (judged p.In_ok-record ∙ fine _ _ _ _ _ (omega arith) (omega arith) (sym (tested p.After-in_range) ∙ c.if-not-in_range.false) c.confidence.ensures (omega arith) c.if-confidence-eq0.false)
