-- What a mask weighs: the three values that the code hands to `masked` are those that the rule reads.
use mathlib.Core.Path.{◌≡◌}
use mathlib.Core.List.{List, [], ◌∷◌}
use Prim.Native.Nat.{ℕ, zero, suc, ◌+◌, ◌*◌, ◌/◌, ◌%◌, ◌≤◌, ◌<◌}
use native.Mathlib.Omega.{arith}
use lib.IntN.{ℤ, pos, nat_abs}
use lib.ListN.{get_or}
use mir.Syntax.{w64}
use mir.Val.{to_z, of_z}
use Rattle.machine.specs.Held.{Held, itself, read}
use Rattle.rules.specs.Grid.{control}
use Rattle.rules.specs.Refinement.{masked}
use Rattle.rules.proofs.Laws.Surface.{control_size}
use Rattle.refined_rows.specs.Read.{RowsRead}

-- x, y and z hold the values of f that the mask of this parity reads from place c on, none larger than `masked` takes
pub record Weighed (odd c : ℕ) (f : ℕ → ℤ) (x y z : ℤ) : Type 0 where
  pub two : odd < 2
  pub first : Held x (f c) 32_000_000_000
  pub second : Held y (f (c + 1)) 32_000_000_000
  pub third : Held z (f (c + 1 + odd)) 32_000_000_000

module _ {odd c : ℕ} {f : ℕ → ℤ} {x y z : ℤ} (w : Weighed odd c f x y z) where
  -- a mask of two values reads no third
  pub learnt : masked odd (λ i. get_or (x ∷ y ∷ z ∷ []) i (pos 0)) 0 ≡ masked odd f c
  unfolding masked
  learnt = go odd w.two w.third.is
    where
      go : (odd : ℕ) → odd < 2 → z ≡ f (c + 1 + odd) → masked odd (λ i. get_or (x ∷ y ∷ z ∷ []) i (pos 0)) 0 ≡ masked odd f c
      go zero h e = rw (w.first.is, w.second.is)
      go (suc zero) h e = let same : c + 1 + 1 ≡ c + 2 = omega arith in rw (w.first.is, w.second.is, e, same)
      go (suc (suc odd)) h e = absurd (omega arith)

-- ---- how the code reads them

abbrev back : ℤ → ℤ
back x = to_z w64 (of_z w64 x)

-- each as f gives it
pub weighed : (odd c : ℕ) (f : ℕ → ℤ) → odd < 2 → ((i : ℕ) → i ≤ c + 1 + odd → nat_abs (f i) ≤ 32_000_000_000)
    → Weighed odd c f (back (f c)) (back (f (c + 1))) (back (f (c + 1 + odd)))
weighed odd c f two size = record { two = two; first = value c (omega arith); second = value (c + 1) (omega arith); third = value (c + 1 + odd) (omega arith) }
  where
    value : (i : ℕ) → i ≤ c + 1 + odd → Held (back (f i)) (f i) 32_000_000_000
    value i h = read tt (itself (f i) 32_000_000_000 (size i h))

-- those of column s that the new row t weighs, at their places in the lattice
pub column_weighed : {m t : ℕ} {lattice : List ℤ} (s : ℕ) → RowsRead m t lattice → s < m + 3
    → Weighed (t % 2) (t / 2) (control m lattice s) (back (get_or lattice (t / 2 * (m + 3) + s) (pos 0))) (back (get_or lattice (t / 2 * (m + 3) + (m + 3) + s) (pos 0))) (back (get_or lattice (t / 2 * (m + 3) + (m + 3) + t % 2 * (m + 3) + s) (pos 0)))
unfolding control
column_weighed {m} {t} {lattice} s rows h =
    let second : t / 2 * (m + 3) + (m + 3) + s ≡ (t / 2 + 1) * (m + 3) + s = omega arith in
    let third : t / 2 * (m + 3) + (m + 3) + t % 2 * (m + 3) + s ≡ (t / 2 + 1 + t % 2) * (m + 3) + s = omega arith in
    rw (second, third)
    (weighed (t % 2) (t / 2) (control m lattice s) (omega arith)
    (λ q l. omega (arith, control_size m (t / 2 + t % 2 + 2) s q lattice rows.ranged h (omega arith))))
