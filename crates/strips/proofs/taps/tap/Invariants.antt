-- The loop's invariant: the columns before i have their cells and their numerators.
use mathlib.Core.Path.{◌≡◌}
use lib.ListN.{length}
use Rattle.strips.specs.Strips.{Taps}
use Rattle.strips.proofs.taps.tap.Given as goal

abbrev pub invariant-loop-i : goal.invariant-loop-i
invariant-loop-i l = (length l.cells ≡ 64) × (length l.taps ≡ 64) × Taps l.strip l.i l.cells l.taps
