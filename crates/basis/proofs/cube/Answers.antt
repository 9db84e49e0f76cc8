-- The products of a number of size at most 1024 are the exact ones.
use Rattle.machine.specs.Held.{itself, read, times}
use Rattle.rules.specs.Surface.{cube}
use Rattle.basis.proofs.cube.Goals as goal

pub returns : goal.returns
unfolding cube
returns c =
    let v = read tt (itself c.args.v 1024 c.requires) in
    (read tt (times (read tt (times v v)) v)).is
