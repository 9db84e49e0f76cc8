-- What holds from one index on and before another, and at the next or at the one before.
use Rattle.std.specs.Prelude.{◌≡◌, ℕ, ◌+◌, ◌-◌, ◌≤◌, ◌<◌}
use Rattle.std.proofs.Common.{subst, sym, arith}
use Rattle.std.proofs.Math.Decide.{dec_lt}

module _ (P : ℕ → Type 0) where
  pub above_more : (a i : ℕ) → ((k : ℕ) → a ≤ k → k < i → P k) → P i → (k : ℕ) → a ≤ k → k < i + 1 → P k
  above_more a i had here k h l = go (dec_lt k i)
    where
      go : Dec (k < i) → P k
      go (yes d) = had k h d
      go (no d) = let same : k ≡ i = omega arith in subst P (sym same) here

  pub below_more : (i b : ℕ) → ((k : ℕ) → i ≤ k → k < b → P k) → P (i - 1) → (k : ℕ) → i - 1 ≤ k → k < b → P k
  below_more i b had here k h l = go (dec_lt k i)
    where
      go : Dec (k < i) → P k
      go (yes d) = let same : k ≡ i - 1 = omega arith in subst P (sym same) here
      go (no d) = had k (omega arith) l
