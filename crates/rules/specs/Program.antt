-- The program of document 01: what it writes on standard output for the bytes of its standard input. Definitions only.
use Rattle.std.specs.Prelude.{ℕ, zero, suc, ◌+◌, ◌/◌, ◌%◌, ◌&&◌, cond, List, [], ◌∷◌, ◌++◌, leb, ltb, length}
use Rattle.std.proofs.Math.Option.{none, some}
use Rattle.rules.specs.Fit.{Shape, columns, rows, Survey, single_lattice, difference_check, in_levels_check}
use Rattle.rules.specs.Answers.{Refusal, number, place, short, Check, require, ◌then◌}
use Rattle.rules.specs.LatticeFile.{lattice_file}
use Rattle.rules.specs.PointFile.{file_shape, file_survey, point_file_check}

-- a number in decimal, as characters; its digits are at most k + 1
unfoldable pub digits : ℕ → ℕ → List ℕ
digits zero v = (48 + v) ∷ []
digits (suc k) v = cond (ltb v 10) ((48 + v) ∷ []) (digits k (v / 10) ++ ((48 + v % 10) ∷ []))

unfoldable pub decimal : ℕ → List ℕ
decimal v = digits v v

-- "one line "refused N P" (number, place, decimal, one newline after)"
unfoldable pub refused_line : Refusal → List ℕ
refused_line r =
    (114 ∷ 101 ∷ 102 ∷ 117 ∷ 115 ∷ 101 ∷ 100 ∷ 32 ∷ []) ++ decimal (number r) ++ (32 ∷ []) ++ decimal (place r) ++ (10 ∷ [])

-- "It takes at most .. 16 finest cells a side", and of document 02 "The program takes 7,508 bytes". "More bytes: refused 4 0, before reading the file; more
-- cells: the same, after the reader"
unfoldable pub program_check : List ℕ → Check
program_check input =
    let a = file_shape input in
    require (leb (length input) 7_508) short
    then point_file_check input
    then require (leb (columns a a.h) 16 && leb (rows a a.h) 16) short
    then difference_check (file_survey input).zs
    then in_levels_check a (file_survey input)

-- "writes the lattice file, or one line"
unfoldable pub written : Check → Shape → Survey → List ℕ
written (some r) a s = refused_line r
written none a s = lattice_file (columns a a.h) (rows a a.h) (single_lattice a s)

unfoldable pub program_output : List ℕ → List ℕ
program_output input = written (program_check input) (file_shape input) (file_survey input)
