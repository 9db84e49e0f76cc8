-- Laws of some of many tests: what its answers tell.
use Rattle.std.specs.Prelude.{◌≡◌, Bool, ◌||◌, ℕ, zero, suc, ◌<◌}
use Rattle.std.proofs.Math.Path.{refl}
use Rattle.std.proofs.Common.{sym, ap₂, subst, not-suc-le-zero, arith}
use Rattle.std.proofs.Math.Bool.{true, false}
use Rattle.std.proofs.Math.Decide.{dec_lt}
use Rattle.std.proofs.Math.Dec.{T}
use Rattle.rules.specs.Above.{any_of}

pub any_of_same : (n : ℕ) (t u : ℕ → Bool) → ((i : ℕ) → i < n → t i ≡ u i) → any_of n t ≡ any_of n u
unfolding any_of
any_of_same zero t u h = refl
any_of_same (suc n) t u h = ap₂ ◌||◌ (any_of_same n t u (λ i l. h i (omega arith))) (h n (omega arith))

pub any_of_none : (n : ℕ) (t : ℕ → Bool) → ((i : ℕ) → i < n → t i ≡ false) → any_of n t ≡ false
unfolding any_of
any_of_none zero t h = refl
any_of_none (suc n) t h = ap₂ ◌||◌ (any_of_none n t (λ i l. h i (omega arith))) (h n (omega arith))

pub any_of_some : (n i : ℕ) (t : ℕ → Bool) → i < n → t i ≡ true → any_of n t ≡ true
unfolding any_of
any_of_some zero i t l e = absurd (not-suc-le-zero l)
any_of_some (suc n) i t l e = go (dec_lt i n) (λ k. any_of_some n i t k e)
  where
    or_true : (b : Bool) → (b || true) ≡ true
    or_true true = refl
    or_true false = refl

    go : Dec (i < n) → (i < n → any_of n t ≡ true) → (any_of n t || t n) ≡ true
    go (yes k) ih = rw (ih k) refl
    go (no g) ih = let same : n ≡ i = omega arith in rw (same, e) (or_true (any_of i t))

-- what its answers tell
pub any_of_found : (n : ℕ) (t : ℕ → Bool) → any_of n t ≡ true → (i : ℕ) × (i < n) × (t i ≡ true)
unfolding any_of
any_of_found zero t e = absurd (subst T (sym e) tt)
any_of_found (suc n) t e = go (any_of n t) (any_of_found n t) e
  where
    go : (b : Bool) → (b ≡ true → (i : ℕ) × (i < n) × (t i ≡ true)) → (b || t n) ≡ true → (i : ℕ) × (i < suc n) × (t i ≡ true)
    go true ih e = let p = ih refl in (p.0, omega (arith, p.1), p.2)
    go false ih e = (n, omega arith, e)
