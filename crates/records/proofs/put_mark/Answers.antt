-- What is copied over a part that is as long is laid there.
use Rattle.std.proofs.Common.{◌≡◌, ◌+◌, ◌-◌, ◌++◌, length, take, ap, arith}
use Rattle.std.proofs.Math.Seq.{drop-drop}
use Rattle.algebra.specs.Table.{laid}
use Rattle.records.proofs.put_mark.Goals as goal

pub returns : goal.returns
unfolding laid
returns c =
    let a = c.args in
    let two : a.at + 2 - a.at ≡ length a.mark = omega arith in
    rw (c.copy_from_slice.ensures.after, two) (ap (λ l. take a.at a.output.now ++ (a.mark ++ l)) (drop-drop (length a.mark) a.at a.output.now))
