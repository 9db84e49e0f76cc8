-- Where the rows of a lattice and of its file lie, how long a row's record is, and how long a part that is lent from q to q + k.
use Rattle.std.specs.Prelude.{◌≡◌, List, ◌++◌, ℕ, ◌+◌, ◌-◌, ◌*◌, ◌≤◌, ◌<◌, ℤ, length, take, drop}
use Rattle.std.proofs.Common.{◌∙◌, mul-le-mul_right, arith, length-append}
use Rattle.algebra.specs.Table.{joined, length_area, area_part, length_joined}
use Rattle.rules.specs.Grid.{controls, control}
use Rattle.rules.specs.Bytes.{bytes_of, value_bytes}
use Rattle.rules.proofs.Laws.Bytes.{length_bytes_of, length_value_bytes}
use Rattle.rules.specs.LatticeFile.{LR, row_record, row_length, row_start}

-- row r of n rows of length k
within : (r n k : ℕ) → r < n → r * k + k ≤ n * k
within r n k h = omega (arith, mul-le-mul_right k h)

pub lattice_row : (m n r : ℕ) → r < n + 3 → r * (m + 3) + (m + 3) ≤ controls m n
unfolding controls
lattice_row m n r h = omega (arith, within r (n + 3) (m + 3) h)

pub file_row : (m n r : ℕ) → r < n + 3 → row_start m r + row_length m ≤ row_start m (n + 3)
unfolding row_start
file_row m n r h = omega (arith, within r (n + 3) (row_length m) h)

pub row_long : (m : ℕ) (lattice : List ℤ) (r : ℕ) → length (row_record m lattice r) ≡ row_length m
unfolding row_record row_length LR
row_long m lattice r =
    length-append (LR ++ bytes_of 2 r) (joined (m + 3) (λ c. value_bytes (control m lattice c r)))
    ∙ omega (arith, length_bytes_of 2 r, length_joined 8 (λ c. value_bytes (control m lattice c r)) (λ c. length_value_bytes (control m lattice c r)) (m + 3))

-- the machine has k as a difference
pub gap : (q k : ℕ) → q + k - q ≡ k
gap q k = omega arith

pub part_long : (q k : ℕ) (l : List ℤ) → q + k ≤ length l → length (take (q + k - q) (drop q l)) ≡ k
part_long q k l h = rw (area_part q k l) (length_area q k l h)
