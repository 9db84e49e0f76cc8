-- The loop's invariant: the rows before j are done, and the ring has the lattice rows below next.
use Prim.Native.Nat.{ℕ, ◌+◌, ◌≤◌}
use Rattle.strips.specs.Strips.{Ringed, row_cell, height_at, Striped}
use Rattle.strips.proofs.ring.strip_rows.Given as goal

abbrev pub invariant-loop-j : goal.invariant-loop-j
invariant-loop-j l =
    let s = l.columns.strip in
    ((k : ℕ) → l.j ≤ k → l.next ≤ row_cell s k + 4)
    × Ringed s l.columns.lattice.now 0 s.w l.next l.next l.ring
    × Striped s.nodes.columns l.j s.column (s.column + s.w) (height_at s l.columns.lattice.now) l.initial.output l.output
