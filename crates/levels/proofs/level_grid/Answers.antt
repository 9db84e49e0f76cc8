-- Every level's cells are few and narrow enough, and level h's are of 16 positions.
use Rattle.std.proofs.Common.{arith}
use Rattle.rules.specs.Laws.Passed.{Sides}
use Rattle.rules.proofs.Laws.Passed.{level_sides}
use Rattle.survey.specs.Survey.{shape_of}
use Rattle.scratch.specs.Sizes.{unit_is}
use Rattle.levels.proofs.level_grid.Goals as goal

pub invariant_of-result : goal.invariant_of-result
invariant_of-result c =
    let a = c.args.shape in
    let q = c.requires in
    let cells = c.cells in
    let sides : Sides 512 cells.result.m cells.result.n = rw (cells.ensures.m_is, cells.ensures.n_is) (level_sides a.m0 a.n0 c.args.k q.0 (omega arith)) in
    record { gridded = record { m_some = sides.0; m_most = sides.1; n_some = sides.2; n_most = sides.3; e_most = omega (arith, q) } }

pub returns-clause-unit_is : goal.returns-clause-unit_is
returns-clause-unit_is c = unit_is (shape_of c.args.shape) c.args.k c.requires.2
