-- Laws of a number in decimal: its last digit stands behind the digits of its tenth, and how many digits it has at most.
use Rattle.std.specs.Prelude.{◌≡◌, refl, [], ◌∷◌, ◌++◌, ℕ, zero, suc, ◌+◌, ◌/◌, ◌%◌, ◌^◌, ◌≤◌, ◌<◌, length}
use Rattle.std.proofs.Common.{sym, ap, ◌∙◌, div-lt_iff_lt-mul, pow-suc, arith, lt-ltb, le-ltb, length-append}
use Rattle.std.proofs.Math.Decide.{dec_lt}
use Rattle.rules.specs.Program.{digits, decimal}

digits_one : (k v : ℕ) → v < 10 → digits k v ≡ (48 + v) ∷ []
unfolding digits
digits_one zero v h = refl
digits_one (suc k) v h = rw (lt-ltb v 10 h)

digits_more : (k v : ℕ) → 10 ≤ v → digits (suc k) v ≡ digits k (v / 10) ++ ((48 + v % 10) ∷ [])
unfolding digits
digits_more k v h = rw (le-ltb v 10 h)

-- how many steps are allowed does not matter, as long as they are enough
digits_enough : (k j v : ℕ) → v ≤ k → v ≤ j → digits k v ≡ digits j v
digits_enough zero j v h l = digits_one zero v (omega arith) ∙ sym (digits_one j v (omega arith))
digits_enough (suc k) zero v h l = digits_one (suc k) v (omega arith) ∙ sym (digits_one zero v (omega arith))
digits_enough (suc k) (suc j) v h l = go (dec_lt v 10) (digits_enough k j (v / 10))
  where
    go : Dec (v < 10) → (v / 10 ≤ k → v / 10 ≤ j → digits k (v / 10) ≡ digits j (v / 10)) → digits (suc k) v ≡ digits (suc j) v
    go (yes s) ih = digits_one (suc k) v s ∙ sym (digits_one (suc j) v s)
    go (no g) ih =
        digits_more k v (omega arith)
        ∙ ap (λ l. l ++ ((48 + v % 10) ∷ [])) (ih (omega arith) (omega arith))
        ∙ sym (digits_more j v (omega arith))

pub decimal_one : (v : ℕ) → v < 10 → decimal v ≡ (48 + v) ∷ []
unfolding decimal
decimal_one v h = digits_one v v h

pub length_decimal_one : (v : ℕ) → v < 10 → length (decimal v) ≡ 1
length_decimal_one v h = ap length (decimal_one v h)

pub decimal_more : (v : ℕ) → 10 ≤ v → decimal v ≡ decimal (v / 10) ++ ((48 + v % 10) ∷ [])
unfolding decimal
decimal_more zero h = absurd (none h)
  where
    none : 10 ≤ zero → ⊥
    none h = omega arith
decimal_more (suc k) h =
    digits_more k (suc k) h ∙ ap (λ l. l ++ ((48 + suc k % 10) ∷ [])) (digits_enough k (suc k / 10) (suc k / 10) (omega arith) (omega arith))

pub length_decimal_more : (v : ℕ) → 10 ≤ v → length (decimal v) ≡ length (decimal (v / 10)) + 1
length_decimal_more v h = ap length (decimal_more v h) ∙ length-append (decimal (v / 10)) ((48 + v % 10) ∷ [])

-- a number below 10^(k + 1) has at most k + 1 digits
pub decimal_short : (k v : ℕ) → v < 10 ^ suc k → length (decimal v) ≤ suc k
decimal_short zero v h = omega (arith, length_decimal_one v (omega arith))
decimal_short (suc k) v h = go (dec_lt v 10) (decimal_short k (v / 10))
  where
    go : Dec (v < 10) → (v / 10 < 10 ^ suc k → length (decimal (v / 10)) ≤ suc k) → length (decimal v) ≤ suc (suc k)
    go (yes s) ih = omega (arith, length_decimal_one v s)
    go (no g) ih = omega (arith, length_decimal_more v (omega arith), ih ((div-lt_iff_lt-mul (omega arith)).1 (rw (pow-suc 10 (suc k)) at h)))
