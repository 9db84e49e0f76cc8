-- The loop's invariant: the sums of the columns before i are not above `most`.
use Rattle.bands.specs.Bands.{SumsBelow}
use Rattle.bands.proofs.row_above.Given as goal

abbrev pub invariant-loop-i : goal.invariant-loop-i
invariant-loop-i l = SumsBelow l.b l.ring l.cell l.from l.i l.most
