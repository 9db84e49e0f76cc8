-- Confidences of bytes: whether all of the first n are above 0, and the first that is not.
use Rattle.std.specs.Prelude.{ℕ, zero, suc, ◌≤◌, ◌<◌, ◌≡◌, refl, Bool, true, false, not, ◌&&◌, List, T, eqb, length, get_or}
use Rattle.std.proofs.Math.Decide.{dec_lt}
use Rattle.std.proofs.Common.{arith, ne_eqb}
use Rattle.std.proofs.Math.Facts.{and_yes}
use Rattle.rules.specs.Grid.{confident}

unfoldable pub all_sure : ℕ → List ℕ → Bool
all_sure zero qs = true
all_sure (suc n) qs = all_sure n qs && not (eqb (get_or qs n 0) 0)

above_zero : (q : ℕ) → T (not (eqb q 0)) → 1 ≤ q
above_zero zero t = absurd t
above_zero (suc q) t = omega arith

-- it is true exactly if each of them is
pub each_sure : (n : ℕ) (qs : List ℕ) → T (all_sure n qs) → (i : ℕ) → i < n → 1 ≤ get_or qs i 0
unfolding all_sure
each_sure zero qs t i l = absurd (omega arith)
each_sure (suc n) qs t i l =
    let all = and_yes (all_sure n qs) (not (eqb (get_or qs n 0) 0)) t in
    go (dec_lt i n) (each_sure n qs all.0 i) (above_zero _ all.1)
  where
    go : Dec (i < n) → (i < n → 1 ≤ get_or qs i 0) → 1 ≤ get_or qs n 0 → 1 ≤ get_or qs i 0
    go (yes below) earlier last = earlier below
    go (no past) earlier last = let e : i ≡ n = omega arith in rw e last

pub sure_all : (n : ℕ) (qs : List ℕ) → ((i : ℕ) → i < n → 1 ≤ get_or qs i 0) → all_sure n qs ≡ true
unfolding all_sure
sure_all zero qs h = refl
sure_all (suc n) qs h =
    let last : 1 ≤ get_or qs n 0 = h n (omega arith) in
    rw (sure_all n qs (λ i l. h i (omega arith)), ne_eqb (get_or qs n 0) 0 (λ e. omega arith)) refl

-- point i is the first whose confidence is 0
pub record FirstUnsure (i : ℕ) (qs : List ℕ) : Type 0 where
  pub listed : i < length qs
  pub before : (k : ℕ) → k < i → confident (get_or qs k 0) ≡ true
  pub there : confident (get_or qs i 0) ≡ false
