-- What the laws of `proofs/Laws/TwoScale` speak of.
use Rattle.std.specs.Prelude.{◌≡◌}
use Prim.Native.Nat.{ℕ, ◌+◌, ◌*◌}

-- a cell c splits in two: a position at offset a lies in the first of them or in the second, cell d of the finer grid, at offset b
pub data Halved (U c a d b : ℕ) : Type 0 where
  first : d ≡ 2 * c → a ≡ b → Halved U c a d b
  second : d ≡ 2 * c + 1 → a ≡ U + b → Halved U c a d b
