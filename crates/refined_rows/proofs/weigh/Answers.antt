-- A row of the table is the mask of its parity, and its weights are too small for a sum to overflow.
use Rattle.std.proofs.Common.{◌≡◌, ℕ, zero, suc, ◌≤◌, ◌<◌, [], ◌∷◌, get_or, ℤ, pos, nat_abs, ◌+ℤ◌, ◌*ℤ◌, ◌∙◌, arith}
use Rattle.algebra.specs.Solver.{var, con, ◌⊞◌, ◌⊠◌, solve}
use Rattle.machine.specs.Held.{Number, number, itself, read, plus, times, fits}
use Rattle.rules.specs.Refinement as rule
use Rattle.refined_rows.proofs.weigh.Goals as goal

-- ---- the table

abbrev weight : ℕ → ℕ → ℤ
weight odd k = get_or (get_or ((pos 4 ∷ pos 4 ∷ pos 0 ∷ []) ∷ (pos 1 ∷ pos 6 ∷ pos 1 ∷ []) ∷ []) odd []) k (pos 0)

weight_size : (odd : ℕ) → (nat_abs (weight odd 0) ≤ 4) × (nat_abs (weight odd 1) ≤ 6) × (nat_abs (weight odd 2) ≤ 1)
weight_size zero = (omega arith, omega arith, omega arith)
weight_size (suc zero) = (omega arith, omega arith, omega arith)
weight_size (suc (suc odd)) = (omega arith, omega arith, omega arith)

mask : (odd : ℕ) (a b c : ℤ) → odd < 2
    → weight odd 0 *ℤ a +ℤ weight odd 1 *ℤ b +ℤ weight odd 2 *ℤ c ≡ rule.masked odd (λ i. get_or (a ∷ b ∷ c ∷ []) i (pos 0)) 0
unfolding rule.masked
mask zero a b c h =
    let four = con (pos 4) in
    solve (four ⊠ var 0 ⊞ four ⊠ var 1 ⊞ con (pos 0) ⊠ var 2) (four ⊠ var 0 ⊞ four ⊠ var 1) (a ∷ b ∷ c ∷ []) tt
mask (suc zero) a b c h =
    let one = con (pos 1) in
    let six = con (pos 6) in
    solve (one ⊠ var 0 ⊞ six ⊠ var 1 ⊞ one ⊠ var 2) (var 0 ⊞ six ⊠ var 1 ⊞ var 2) (a ∷ b ∷ c ∷ []) tt
mask (suc (suc odd)) a b c h = absurd (omega arith)

-- ---- the code's expressions

abbrev Small : ℕ → ℤ → ℤ → ℤ → Type 0
Small odd a b c = (odd < 2) × (nat_abs a ≤ 32_000_000_000) × (nat_abs b ≤ 32_000_000_000) × (nat_abs c ≤ 32_000_000_000)

module _ (odd : ℕ) (a b c : ℤ) (small : Small odd a b c) where
  abbrev first : Number
  first = number (times (read tt (itself (weight odd 0) 4 (weight_size odd).0)) (read tt (itself a 32_000_000_000 small.1)))

  abbrev second : Number
  second = number (times (read tt (itself (weight odd 1) 6 (weight_size odd).1)) (read tt (itself b 32_000_000_000 small.2)))

  abbrev third : Number
  third = number (times (read tt (itself (weight odd 2) 1 (weight_size odd).2)) (read tt (itself c 32_000_000_000 small.3)))

  abbrev two : Number
  two = number (plus (read tt first.held) (read tt second.held))

  abbrev three : Number
  three = number (plus (read tt two.held) (read tt third.held))

-- ---- what it returns

pub returns : goal.returns
returns c =
    let a = c.args in
    (read tt (three a.odd a.a a.b a.c c.requires).held).is ∙ mask a.odd a.a a.b a.c c.requires.0

-- ---- nothing wraps

pub overflow_add-result : goal.overflow_add-result
overflow_add-result c = let a = c.args in fits tt (two a.odd a.a a.b a.c c.requires).held

pub overflow_add-result-2 : goal.overflow_add-result-2
overflow_add-result-2 c = let a = c.args in fits tt (three a.odd a.a a.b a.c c.requires).held
