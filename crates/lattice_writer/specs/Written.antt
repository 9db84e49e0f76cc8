-- The bytes of a run of values.
use Rattle.std.specs.Prelude.{ℕ, List, ℤ, pos, get_or}
use Rattle.algebra.specs.Table.{joined}
use Rattle.rules.specs.Bytes.{value_bytes}

-- the bytes of the first k values
abbrev pub bytes_of_values : List ℤ → ℕ → List ℕ
bytes_of_values values k = joined k (λ c. value_bytes (get_or values c (pos 0)))
