-- What the laws of `proofs/Laws/Basis` speak of.
use Rattle.std.specs.Prelude.{pos}
use Prim.Native.Nat.{ℕ, zero, suc, ◌+◌, ◌*◌}
use Rattle.std.proofs.Math.IntN.{ℤ, nat_abs}
use Rattle.algebra.specs.Solver.{Expr, con, ◌⊞◌, ◌⊠◌, ◌⊟◌, neg}

-- ---- numerators

-- the numerators of a position at the distances a and b from the two ends of its cell
unfoldable pub weights : ℕ → ℕ → ℕ → ℕ
weights a b zero = b * b * b
weights a b (suc zero) = a * a * a + 6 * (a * a * b) + 12 * (a * b * b) + 4 * (b * b * b)
weights a b (suc (suc zero)) = b * b * b + 6 * (b * b * a) + 12 * (b * a * a) + 4 * (a * a * a)
weights a b (suc (suc (suc k))) = a * a * a

-- `numerator`, for the solver
unfoldable pub quoted : Expr → Expr → ℕ → Expr
quoted U a zero = (U ⊟ a) ⊠ (U ⊟ a) ⊠ (U ⊟ a)
quoted U a (suc zero) = con (pos 3) ⊠ (a ⊠ a ⊠ a) ⊟ con (pos 6) ⊠ (a ⊠ a) ⊠ U ⊞ con (pos 4) ⊠ (U ⊠ U ⊠ U)
quoted U a (suc (suc zero)) = neg (con (pos 3)) ⊠ (a ⊠ a ⊠ a) ⊞ con (pos 3) ⊠ (a ⊠ a) ⊠ U ⊞ con (pos 3) ⊠ a ⊠ (U ⊠ U) ⊞ U ⊠ U ⊠ U
quoted U a (suc (suc (suc k))) = a ⊠ a ⊠ a

-- ---- four weights, and the values from a place on

-- the sizes of four weights together
abbrev pub total_size : (ℕ → ℤ) → ℕ
total_size w = nat_abs (w 0) + nat_abs (w 1) + nat_abs (w 2) + nat_abs (w 3)
