-- The lattice file of document 01: the file of a lattice, the reader and the writer. Definitions only.
use Rattle.std.specs.Prelude.{ℕ, ◌+◌, ◌*◌, ◌&&◌, List, [], ◌∷◌, ◌++◌, leb, eqb, ℤ, length}
use Rattle.algebra.specs.Table.{joined, over}
use Rattle.rules.specs.Grid.{in_range, within, controls, control, store}
use Rattle.rules.specs.Bytes.{bytes_of, value_bytes, number_at, value_at, record_check}
use Rattle.rules.specs.Answers.{short, field, trailing, Check, require, ◌then◌, first_of, Outcome, call}
use Rattle.rules.specs.Calls.{CellCounts, cells_check, lattice_check}

-- "LH" (0x4C 0x48), "LR" (0x4C 0x52), "Le" (0x4C 0x45)
unfoldable pub LH : List ℕ
LH = 0x4C ∷ 0x48 ∷ []

unfoldable pub LR : List ℕ
LR = 0x4C ∷ 0x52 ∷ []

unfoldable pub Le : List ℕ
Le = 0x4C ∷ 0x45 ∷ []

-- "each "LR" .., row number u16 from 0, m+3 control values"
unfoldable pub row_record : ℕ → List ℤ → ℕ → List ℕ
row_record m lattice r = LR ++ bytes_of 2 r ++ joined (m + 3) (λ c. value_bytes (control m lattice c r))

-- ""LH" .., m and n as u16, 1 to 512; n+3 rows ..; "Le" .., u16 n+3"
unfoldable pub lattice_file : ℕ → ℕ → List ℤ → List ℕ
lattice_file m n lattice = (LH ++ bytes_of 2 m ++ bytes_of 2 n) ++ joined (n + 3) (row_record m lattice) ++ Le ++ bytes_of 2 (n + 3)

-- ---- where the records stand

unfoldable pub row_length : ℕ → ℕ
row_length m = 4 + 8 * (m + 3)

unfoldable pub row_start : ℕ → ℕ → ℕ
row_start m r = 6 + r * row_length m

unfoldable pub lattice_file_length : ℕ → ℕ → ℕ
lattice_file_length m n = row_start m (n + 3) + 4

-- ---- the reader: "Readers go record by record, 9, 10, fields in order, then 12, then 4"

unfoldable pub file_m : List ℕ → ℕ
file_m file = number_at 2 file 2

unfoldable pub file_n : List ℕ → ℕ
file_n file = number_at 2 file 4

unfoldable pub lattice_head_check : List ℕ → Check
lattice_head_check file = record_check LH file 0 6 then require (within 1 512 (file_m file)) (field 2) then require (within 1 512 (file_n file)) (field 4)

unfoldable pub row_check : ℕ → List ℕ → ℕ → Check
row_check m file r =
    let s = row_start m r in
    record_check LR file s (row_length m)
    then require (eqb (number_at 2 file (s + 2)) r) (field (s + 2))
    then first_of (m + 3) (λ c. require (in_range (value_at file (s + 4 + 8 * c))) (field (s + 4 + 8 * c)))

unfoldable pub end_check : ℕ → ℕ → List ℕ → Check
end_check m n file =
    let s = row_start m (n + 3) in
    record_check Le file s 4
    then require (eqb (number_at 2 file (s + 2)) (n + 3)) (field (s + 2))
    then require (eqb (length file) (s + 4)) (trailing (s + 4))

unfoldable pub lattice_file_check : List ℕ → Check
lattice_file_check file =
    let m = file_m file in
    let n = file_n file in
    lattice_head_check file then first_of (n + 3) (row_check m file) then end_check m n file

-- the control values that the file holds
unfoldable pub file_lattice : List ℕ → List ℤ
file_lattice file = store (file_m file) (file_n file) (λ s t. value_at file (row_start (file_m file) t + 4 + 8 * s))

unfoldable pub read_lattice_check : List ℕ → List ℤ → Check
read_lattice_check file output = lattice_file_check file then require (leb (controls (file_m file) (file_n file)) (length output)) short

unfoldable pub read_lattice_call : List ℕ → List ℤ → Outcome CellCounts (List ℤ)
read_lattice_call file output =
    call (read_lattice_check file output) (record { m = file_m file; n = file_n file }) (over (file_lattice file) output) output

-- ---- the writer

unfoldable pub write_lattice_check : ℕ → ℕ → List ℤ → List ℕ → Check
write_lattice_check m n lattice output =
    cells_check 512 m n
    then require (leb (controls m n) (length lattice) && leb (lattice_file_length m n) (length output)) short
    then lattice_check m n lattice

-- it returns the bytes written
unfoldable pub write_lattice_call : ℕ → ℕ → List ℤ → List ℕ → Outcome ℕ (List ℕ)
write_lattice_call m n lattice output =
    call (write_lattice_check m n lattice output) (lattice_file_length m n) (over (lattice_file m n lattice) output) output
