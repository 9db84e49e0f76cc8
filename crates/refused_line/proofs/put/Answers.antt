-- What is copied over a part that is as long is laid there.
use Rattle.std.proofs.Common.{◌≡◌, ◌+◌, ◌-◌, ◌++◌, length, take, ap, arith}
use Rattle.std.proofs.Math.Seq.{drop-drop}
use Rattle.algebra.specs.Table.{laid}
use Rattle.refused_line.proofs.put.Goals as goal

pub returns-clause-output_after : goal.returns-clause-output_after
unfolding laid
returns-clause-output_after c =
    let a = c.args in
    let long : a.at + length a.text.now - a.at ≡ length a.text.now = omega arith in
    rw (c.copy_from_slice.ensures.after, long) (ap (λ l. take a.at a.output.now ++ (a.text.now ++ l)) (drop-drop (length a.text.now) a.at a.output.now))
