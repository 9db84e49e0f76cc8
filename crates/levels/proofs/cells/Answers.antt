-- The shifts lose no bits.
use Rattle.std.proofs.Common.{arith}
use Rattle.rules.proofs.Laws.Passed.{cells_at_most, cells_at_shifted}
use Rattle.levels.proofs.cells.Goals as goal

pub invariant_of-result : goal.invariant_of-result
invariant_of-result c =
    let a = c.args.shape in
    let k = c.args.k in
    let q = c.requires in
    record {
      few = (
        omega (arith, cells_at_shifted a.m0 k q.0 q.2, cells_at_most a.m0 k q.0 q.2),
        omega (arith, cells_at_shifted a.n0 k q.1 q.2, cells_at_most a.n0 k q.1 q.2),
      );
    }

pub returns-clause-m_is : goal.returns-clause-m_is
returns-clause-m_is c = cells_at_shifted c.args.shape.m0 c.args.k c.requires.0 c.requires.2

pub returns-clause-n_is : goal.returns-clause-n_is
returns-clause-n_is c = cells_at_shifted c.args.shape.n0 c.args.k c.requires.1 c.requires.2
