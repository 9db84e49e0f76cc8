-- What the laws of `proofs/Laws/Opposite` speak of.
use Rattle.std.specs.Prelude.{◌≡◌, Bool, not, ℤ, Float}
use Prim.Native.Nat.{ℕ, ◌<◌}
use Rattle.std.specs.Float.{nan, inf, fin}

-- of a size m the signs are opposite, of 0 they are any
abbrev pub Turned : Bool → Bool → ℕ → Type 0
Turned s t m = 0 < m → t ≡ not s

-- both are no number, or infinities, or numbers of one size, with opposite signs
pub data Opposite : Float → Float → Type 0 where
  nans : Opposite nan nan
  infinities : (s : Bool) → Opposite (inf s) (inf (not s))
  numbers : (s t : Bool) (m : ℕ) (e : ℤ) → Turned s t m → Opposite (fin s m e) (fin t m e)
