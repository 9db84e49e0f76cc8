-- The loop's invariant: the ring has the lattice rows before r too, and its other columns are as they were.
use Rattle.strips.specs.Strips.{Ringed, Spared}
use Rattle.strips.proofs.ring.advance.Given as goal

abbrev pub invariant-loop-r : goal.invariant-loop-r
invariant-loop-r l = Ringed l.columns.strip l.columns.lattice.now l.from l.to l.last l.r l.ring × Spared l.from l.to l.initial.ring l.ring
