-- What the raster's contracts cite beside the rules.
use Rattle.std.specs.Prelude.{List, ℕ, ◌*◌, ◌^◌, ◌≤◌, ℤ}
use Rattle.rules.specs.Calls as calls
use Rattle.basis.specs.Weighing.{Grounded}
use Rattle.nodes.specs.Inside.{NodesInside}

-- heights of the lattice can be read at every node, and there is room for them
pub record Samplable (m n e : ℕ) (lattice : List ℤ) (g : calls.Nodes) (room : ℕ) : Type 0 where
  pub grounded : Grounded m n e lattice
  pub inside : NodesInside (2 ^ e * m) (2 ^ e * n) g
  pub fits : g.across * g.down ≤ room
