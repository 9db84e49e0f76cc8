-- The row's columns by their places.
use Rattle.machine.specs.Tests.{plain}
use Rattle.below.proofs.Rows.{none_high, some_high}
use Rattle.below.proofs.row_high.Goals as goal

pub returns-in-None : goal.returns-in-None
returns-in-None c =
    none_high _ _ _ _ c.args.t (plain c.args.stage c.ranges.stage.sfits) c.requires.0 c.requires.2 (c.in-None.ensures)

pub returns-in-Some : goal.returns-in-Some
returns-in-Some c =
    let first = c.in-Some.ensures in
    some_high _ _ _ _ c.args.t (plain c.args.stage c.ranges.stage.sfits) c.requires.0 c.requires.2 first.0 first.1 c.past_high.ensures.1
