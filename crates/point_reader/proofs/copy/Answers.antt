-- What stands in record i follows what stands in the records before it.
use Rattle.std.proofs.Common.{sym, ap, ap₂, ◌∙◌, ◌+◌, pos, arith}
use Rattle.algebra.specs.Table.{tabulate, over_none, fill_store}
use Rattle.machine.specs.Held.{returned}
use Rattle.rules.specs.Bytes.{number_at, value_at}
use Rattle.rules.specs.PointFile.{last_number, file_x, file_y, file_z, file_q}
use Rattle.point_records.specs.Records.{start_held, record_held, fields_held}
use Rattle.point_reader.proofs.copy.Goals as goal

pub loop-i-init : goal.loop-i-init
unfolding tabulate
loop-i-init c = record { x = sym (over_none _); y = sym (over_none _); z = sym (over_none _); q = sym (over_none _) }

pub start-s-requires : goal.start-s-requires
start-s-requires c = omega (arith, fields_held c.requires.0 c.loop-i.i c.loop-i-test.true)

pub overflow_add-s : goal.overflow_add-s
overflow_add-s c = omega (arith, fields_held c.requires.0 c.loop-i.i c.loop-i-test.true)

pub u16_at-requires : goal.u16_at-requires
u16_at-requires c = omega (arith, fields_held c.requires.0 c.loop-i.i c.loop-i-test.true)

pub overflow_add-s-in-loop-i : goal.overflow_add-s-in-loop-i
overflow_add-s-in-loop-i c = omega (arith, fields_held c.requires.0 c.loop-i.i c.loop-i-test.true)

pub u16_at-requires-in-loop-i : goal.u16_at-requires-in-loop-i
u16_at-requires-in-loop-i c = omega (arith, fields_held c.requires.0 c.loop-i.i c.loop-i-test.true)

pub overflow_add-s-in-loop-i-2 : goal.overflow_add-s-in-loop-i-2
overflow_add-s-in-loop-i-2 c = omega (arith, fields_held c.requires.0 c.loop-i.i c.loop-i-test.true)

pub value_at-requires : goal.value_at-requires
value_at-requires c = omega (arith, fields_held c.requires.0 c.loop-i.i c.loop-i-test.true)

pub confidence-requires : goal.confidence-requires
confidence-requires c = rw c.start-s.ensures.value (record_held c.requires.0 c.loop-i.i c.loop-i-test.true)

pub loop-i-preserved : goal.loop-i-preserved
unfolding file_x file_y file_z file_q
loop-i-preserved c =
    let file = c.args.file.now in
    let i = c.loop-i.i in
    let at = start_held i c.requires.0 c.start-s.ensures.value in
    let before = c.loop-i.invariant in record {
      x = fill_store i (file_x file) _ 0 (omega arith) before.x (c.u16_at.ensures ∙ ap (λ s. number_at 2 file (s + 2)) at);
      y = fill_store i (file_y file) _ 0 (omega arith) before.y (c.u16_at-in-loop-i.ensures ∙ ap (λ s. number_at 2 file (s + 4)) at);
      z = fill_store i (file_z file) _ (pos 0) (omega arith) before.z (returned c.value_at.type_inv (c.value_at.ensures ∙ ap (λ s. value_at file (s + 6)) at));
      q = fill_store i (file_q file) _ 0 (omega arith) before.q (c.confidence.ensures ∙ ap₂ (λ k s. last_number k file (s + 14)) c.requires.0.alike at);
    }
