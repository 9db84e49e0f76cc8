-- The loop's invariant: the slices are filled up to i with what stands in the records.
use Rattle.std.proofs.Common.{◌≡◌}
use Rattle.algebra.specs.Table.{tabulate, over}
use Rattle.rules.specs.PointFile.{file_x, file_y, file_z, file_q}
use Rattle.point_reader.proofs.copy.Given as goal

abbrev pub invariant-loop-i : goal.invariant-loop-i
invariant-loop-i l = record {
  x : l.xs ≡ over (tabulate l.i (file_x l.file)) l.initial.xs;
  y : l.ys ≡ over (tabulate l.i (file_y l.file)) l.initial.ys;
  z : l.zs ≡ over (tabulate l.i (file_z l.file)) l.initial.zs;
  q : l.qs ≡ over (tabulate l.i (file_q l.file)) l.initial.qs;
}
