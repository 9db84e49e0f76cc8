-- The loop's invariant: the nodes of the rows before j are not above the stage.
use mathlib.Core.List.{List}
use Prim.Native.Nat.{◌+◌}
use lib.IntN.{ℤ}
use Rattle.strips.specs.Strips.{Ringed}
use Rattle.bands.specs.Bands.{Threshold, NodesBelow}
use Rattle.bands.proofs.band_above.Given as goal

abbrev pub invariant-loop-j : goal.invariant-loop-j
invariant-loop-j l =
    (lattice : List ℤ) (stage : ℤ) → Ringed l.s lattice l.due.from l.due.to (l.cell + 4) (l.cell + 4) l.ring → Threshold stage l.s.grid.e l.most
    → NodesBelow l.s lattice stage l.start l.j l.due.from l.due.to
