-- The offset of a column on the grid.
use Rattle.basis.specs.Sums.{basis_asked}
use Rattle.strips.specs.Reading.{on_column}
use Rattle.strips.proofs.taps.tap.Goals as goal

pub basis_of-requires : goal.basis_of-requires
basis_of-requires c = basis_asked c.unit-unit.ensures (on_column c.args.strip _ c.loop-i-test.true) c.locate-at.ensures
