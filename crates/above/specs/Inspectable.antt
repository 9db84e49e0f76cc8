-- What the checks have shown where they refuse nothing.
use Rattle.std.specs.Prelude.{List, ℕ, ◌*◌, ◌^◌, ◌≤◌, ℤ, nat_abs}
use Rattle.rules.specs.Grid.{limit}
use Rattle.rules.specs.Calls.{Nodes}
use Rattle.basis.specs.Weighing.{Grounded}
use Rattle.nodes.specs.Inside.{NodesInside}

-- heights of the lattice can be read at every node, and the stage is in range
pub record Inspectable (m n e : ℕ) (lattice : List ℤ) (g : Nodes) (stage : ℤ) : Type 0 where
  pub grounded : Grounded m n e lattice
  pub inside : NodesInside (2 ^ e * m) (2 ^ e * n) g
  pub stage_size : nat_abs stage ≤ limit
