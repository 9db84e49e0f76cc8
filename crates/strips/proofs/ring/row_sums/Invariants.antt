-- The loop's invariant: the sums at the columns before i are laid in the ring.
use mathlib.Core.Path.{◌≡◌}
use lib.ListN.{length}
use Rattle.strips.proofs.Rings.{with_row}
use Rattle.strips.proofs.ring.row_sums.Given as goal

abbrev pub invariant-loop-i : goal.invariant-loop-i
invariant-loop-i l = (length l.initial.ring ≡ 256) × (l.ring ≡ with_row l.columns.strip l.columns.lattice.now l.r l.from l.i l.initial.ring)
