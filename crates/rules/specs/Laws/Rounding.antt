-- What the laws of `proofs/Laws/Rounding` speak of.
use Rattle.std.specs.Prelude.{◌≡◌, ℕ, ◌*◌, ◌%◌, ◌≤◌, ◌<◌, ℤ, pos, nat_abs, ◌+ℤ◌, ◌-ℤ◌, ◌*ℤ◌, ◌≤ℤ◌, ◌<ℤ◌}

-- ---- floor

-- n is the largest whole number that is at most v / d
pub record Floored (v : ℤ) (d : ℕ) (n : ℤ) : Type 0 where
  pub low : (pos d *ℤ n) ≤ℤ v
  pub high : v <ℤ (pos d *ℤ (n +ℤ pos 1))

-- ---- near: its distance, and its tie rule. This section alone knows where an exact half goes

-- n is no more than a half away from v / d
abbrev pub WithinHalf : ℤ → ℕ → ℤ → Type 0
WithinHalf v d n = nat_abs (pos 2 *ℤ (pos d *ℤ n -ℤ v)) ≤ d

-- the lowest digit of n: 0 if n is even, else 1
abbrev pub odd : ℤ → ℕ
odd n = nat_abs n % 2

-- where it is exactly a half away, n is the even one of the two such numbers
unfoldable pub Tie : ℤ → ℕ → ℤ → Type 0
Tie v d n = nat_abs (pos 2 *ℤ (pos d *ℤ n -ℤ v)) ≡ d → odd n ≡ 0

-- n is the nearest whole number to v / d
pub record Nearest (v : ℤ) (d : ℕ) (n : ℤ) : Type 0 where
  pub distance : WithinHalf v d n
  pub tie : Tie v d n

-- what 2v is to be above for v / d to be past z + 1/2, or with b = 1 for it to be there
abbrev pub middle : ℤ → ℕ → ℕ → ℤ
middle z d b = pos (2 * d) *ℤ z +ℤ (pos d -ℤ pos b)

-- r rounds the multiples of 1 / d to whole numbers: 2 |d · r v - v| ≤ d
pub record Rounds (d : ℕ) (r : ℤ → ℤ) : Type 0 where
  pub positive : 0 < d
  pub distance : (v : ℤ) → nat_abs (pos 2 *ℤ (pos d *ℤ r v -ℤ v)) ≤ d
