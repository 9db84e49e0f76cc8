-- What the contract of the residuals' step cites beside the rules. It goes by lists: a confidence has no part in it.
use Rattle.std.specs.Prelude.{ℕ, ◌^◌, List, ℤ, pos, ◌-ℤ◌, length, get_or}
use Rattle.algebra.specs.Table.{tabulate}
use Rattle.rules.specs.Grid.{control}
use Rattle.rules.specs.Surface.{height}

-- a value less the height of a lattice, of m by n cells of 2^e positions, at its point
abbrev pub less_height : ℕ → ℕ → ℕ → List ℤ → List ℕ → List ℕ → List ℤ → ℕ → ℤ
less_height m n e lattice xs ys values i = get_or values i (pos 0) -ℤ height (2 ^ e) m n (control m lattice) (get_or xs i 0) (get_or ys i 0)

unfoldable pub less_heights : ℕ → ℕ → ℕ → List ℤ → List ℕ → List ℕ → List ℤ → List ℤ
less_heights m n e lattice xs ys values = tabulate (length xs) (less_height m n e lattice xs ys values)
