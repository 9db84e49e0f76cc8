-- What the contracts of a refined row's functions cite beside the rules.
use Rattle.std.specs.Prelude.{List, ℕ, ◌+◌, ◌*◌, ◌/◌, ◌%◌, ◌≤◌, ℤ, length}
use Rattle.rules.specs.Laws.Checks.{AllInRange}

-- the old rows that the new row t reads, t / 2 and the next one or two, are stored and in range
pub record RowsRead (m t : ℕ) (lattice : List ℤ) : Type 0 where
  pub stored : (t / 2 + t % 2 + 2) * (m + 3) ≤ length lattice
  pub ranged : AllInRange ((t / 2 + t % 2 + 2) * (m + 3)) lattice
