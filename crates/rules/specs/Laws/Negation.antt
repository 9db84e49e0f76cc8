-- What the laws of `proofs/Laws/Negation` speak of.
use Rattle.std.specs.Prelude.{◌≡◌, List, map, take}
use Prim.Native.Nat.{ℕ}
use Rattle.std.proofs.Math.IntN.{ℤ, neg_ℤ}
use Rattle.rules.specs.Grid.{Lattice}
use Rattle.rules.specs.Level.{Sums}
use Rattle.rules.specs.Fit.{Shape, Survey, valued}
use Rattle.rules.specs.Answers.{Answer, accepted, refused, Outcome}
use Rattle.rules.specs.Calls.{Slopes}
use Rattle.rules.specs.Calls.{CellCounts, Lent, K}
use Rattle.rules.specs.Laws.Opposite.{Opposite}

-- ---- what is negated

unfoldable pub negated : List ℤ → List ℤ
negated values = map neg_ℤ values

abbrev pub opposite : Lattice → Lattice
opposite f s t = neg_ℤ (f s t)

-- "Negating every height of a point list"
abbrev pub upside_down : Survey → Survey
upside_down s = valued s (negated s.zs)

-- ---- the calls of a lattice

-- an answer with another value, a refusal as it is
unfoldable pub with_value : {A : Type 0} → (A → A) → Answer A → Answer A
with_value f (accepted v) = accepted (f v)
with_value f (refused r) = refused r

-- a call that writes n places, and another that answers alike and, where they accept, leaves the negated values there
pub record Mirrored {A : Type 0} (n : ℕ) (one other : Outcome A (List ℤ)) : Type 0 where
  pub answers : other.answered ≡ one.answered
  pub written : (v : A) → one.answered ≡ accepted v → take n other.slices ≡ negated (take n one.slices)

abbrev pub opposite_slopes : Slopes → Slopes
opposite_slopes v = record { along_x = neg_ℤ v.along_x; along_y = neg_ℤ v.along_y }

-- ---- one level

-- the sums of a control value, with heights and with their negatives
pub record Opposed (one other : Sums) : Type 0 where
  pub first : Opposite one.first other.first
  pub second : other.second ≡ one.second

-- one call and another that answers alike and, where they accept, leaves the negated lattice and residuals in their first K and p places
pub record Overturned (a : Shape) (p : ℕ) (one other : Outcome CellCounts Lent) : Type 0 where
  pub answers : other.answered ≡ one.answered
  pub lattice : (k : CellCounts) → one.answered ≡ accepted k → take (K a) other.slices.lattice ≡ negated (take (K a) one.slices.lattice)
  pub residual : (k : CellCounts) → one.answered ≡ accepted k → take p other.slices.residual ≡ negated (take p one.slices.residual)
