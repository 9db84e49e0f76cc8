-- What the laws of `proofs/Laws/Bytes` speak of.
use Rattle.std.specs.Prelude.{◌≡◌, List, ◌++◌, ℤ, length, get_or, drop}
use Prim.Native.Nat.{ℕ, zero, suc, ◌+◌, ◌*◌, ◌^◌, ◌<◌}
use Rattle.std.specs.Int.Signed.{mag}

-- every entry is a byte
abbrev pub AreBytes : List ℕ → Type 0
AreBytes bs = (i : ℕ) → get_or bs i 0 < 256

-- z is a signed number of w bytes
abbrev pub Signed : ℕ → ℤ → Type 0
Signed w z = 2 * mag z + 1 < 256 ^ w

-- ---- what stands at a byte of a file

-- the number of the w entries from b + k on
unfoldable pub entries : ℕ → List ℕ → ℕ → ℕ → ℕ
entries zero file b k = 0
entries (suc w) file b k = get_or file (b + k) 0 + 256 * entries w file b (suc k)

-- ---- the parts of a file, from byte to byte

-- the bytes from b up to, not including, c are these
pub record Spans (file : List ℕ) (b c : ℕ) (part : List ℕ) : Type 0 where
  pub cut : drop b file ≡ part ++ drop c file
  pub ends : b + length part ≡ c
