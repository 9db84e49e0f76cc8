-- The bytes of a file: "Files are little-endian, with a two-byte mark before each record. Signed values are 8-byte two's complement." Definitions only,
-- with no ranges in them: a number of w bytes, a signed number of w bytes, and what stands at a byte of a file.
use Rattle.std.specs.Prelude.{ℕ, zero, suc, ◌+◌, ◌-◌, ◌*◌, ◌/◌, ◌%◌, ◌^◌, Bool, true, false, ◌&&◌, cond, List, [], ◌∷◌, leb, ltb, eqb, ℤ, pos, negsuc, length, take, drop}
use Rattle.rules.specs.Answers.{Check, require, ◌then◌, incomplete, mark}

-- the w bytes of a number, the lowest first
unfoldable pub bytes_of : ℕ → ℕ → List ℕ
bytes_of zero v = []
bytes_of (suc w) v = v % 256 ∷ bytes_of w (v / 256)

-- the number that bytes stand for
unfoldable pub number_of : List ℕ → ℕ
number_of [] = 0
number_of (b ∷ bs) = b + 256 * number_of bs

-- two's complement in w bytes, and back
unfoldable pub complement : ℕ → ℤ → ℕ
complement w (pos v) = v
complement w (negsuc v) = 256 ^ w - suc v

unfoldable pub uncomplement : ℕ → ℕ → ℤ
uncomplement w v = cond (ltb (2 * v) (256 ^ w)) (pos v) (negsuc (256 ^ w - suc v))

-- the bytes of a value: 8-byte two's complement
unfoldable pub value_bytes : ℤ → List ℕ
value_bytes z = bytes_of 8 (complement 8 z)

-- ---- what stands at byte b of a file

unfoldable pub number_at : ℕ → List ℕ → ℕ → ℕ
number_at w file b = number_of (take w (drop b file))

unfoldable pub value_at : List ℕ → ℕ → ℤ
value_at file b = uncomplement 8 (number_at 8 file b)

unfoldable pub same : List ℕ → List ℕ → Bool
same [] [] = true
same [] (y ∷ ys) = false
same (x ∷ xs) [] = false
same (x ∷ xs) (y ∷ ys) = eqb x y && same xs ys

-- A record of n bytes, its mark among them, that starts at byte s: "record incomplete", then "wrong mark".
unfoldable pub record_check : List ℕ → List ℕ → ℕ → ℕ → Check
record_check due file s n = require (leb (s + n) (length file)) (incomplete s) then require (same (take 2 (drop s file)) due) (mark s)
