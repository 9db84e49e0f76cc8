-- What the laws of `proofs/Laws/Checks` speak of.
use Rattle.std.specs.Prelude.{◌≡◌, Bool, ◌||◌, List, eqb, ℤ, pos, nat_abs, get_or}
use Rattle.std.proofs.Math.Bool.{false}
use Rattle.std.proofs.Math.Option.{none, some}
use Prim.Native.Nat.{ℕ, ◌+◌, ◌≤◌, ◌<◌}
use Rattle.rules.specs.Grid.{limit, in_range}
use Rattle.rules.specs.Answers.{Refusal}
use Rattle.rules.specs.Answers.{Check, first_of, range_check}

-- a refusal is of the first that refuses
pub record FirstRefused (n : ℕ) (f : ℕ → Check) (r : Refusal) : Type 0 where
  pub at : ℕ
  pub below : at < n
  pub none_before : first_of at f ≡ none
  pub refuses : f at ≡ some r

-- ---- what every refusal of a check is

-- whatever the check refuses by has P
pub record Only (P : Refusal → Type 0) (c : Check) : Type 0 where
  pub only : (r : Refusal) → c ≡ some r → P r

-- ---- ranges

-- the first n values are in range
abbrev pub AllInRange : ℕ → List ℤ → Type 0
AllInRange n values = (i : ℕ) → i < n → nat_abs (get_or values i (pos 0)) ≤ limit

-- a scan that has met no offender before i, whatever refuses offenders
abbrev pub NoneOut : ℕ → List ℤ → Type 0
NoneOut i values = (f : ℕ → Refusal) → range_check i values f ≡ none

-- one of the first n values is out of range
abbrev pub SomeOut : ℕ → List ℤ → Type 0
SomeOut n values = NoneOut n values → ⊥

-- value i is out of range, and none before it is
pub record FirstOut (i : ℕ) (values : List ℤ) : Type 0 where
  pub none_before : NoneOut i values
  pub out : in_range (get_or values i (pos 0)) ≡ false

-- w values from place i on, in a list of their own
abbrev pub Part : ℕ → ℕ → List ℤ → List ℤ → Type 0
Part i w values part = (k : ℕ) → k < w → get_or part k (pos 0) ≡ get_or values (i + k) (pos 0)

-- ---- answers

-- the numbers that a level of a fit gives
abbrev pub of_levels : ℕ → Bool
of_levels n = eqb n 7 || eqb n 13 || eqb n 14
