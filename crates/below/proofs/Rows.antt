-- Values at or below a stage, and the lattice rows that were looked at.
use mathlib.Core.Path.{◌≡◌}
use mathlib.Core.List.{List}
use Prim.Native.Nat.{ℕ, ◌+◌, ◌-◌, ◌*◌, ◌≤◌, ◌<◌}
use native.Mathlib.Omega.{arith}
use lib.IntN.{ℤ, pos}
use lib.Signed.{◌≤ℤ◌}
use lib.ListN.{length, take, drop}
use Rattle.std.proofs.lemmas.List.{get_or-drop, get_or-take, length-take, length-drop}
use Rattle.rules.specs.Grid.{control}
use Rattle.below.specs.Below.{ValuesBelow, RowBelow}

-- the part of row t that is looked at
abbrev pub part : List ℤ → ℕ → ℕ → ℕ → ℕ → List ℤ
part l m left right t = take (t * (m + 3) + right - (t * (m + 3) + left)) (drop (t * (m + 3) + left) l)

-- its values by the stage that bits stand for
module _ {z stage : ℤ} (l : List ℤ) (m left right t : ℕ) (is : z ≡ stage) (order : left ≤ right) (stored : t * (m + 3) + right ≤ length l) where
  many : length (part l m left right t) ≡ right - left
  many = simp (length-take, length-drop) (omega arith)

  low : {a b : ℕ} → ValuesBelow z (part l m left right t) a b → (s : ℕ) → left + a ≤ s → s < left + b → s < right → control m l s t ≤ℤ stage
  unfolding control
  low v s h k r =
      let q = t * (m + 3) in
      let i = s - left in
      let in_part : i < q + right - (q + left) = omega arith in
      let place : q + left + i ≡ q + s = omega arith in
      rw (is, get_or-take (q + right - (q + left)) (drop (q + left) l) i (pos 0) in_part, get_or-drop (q + left) l i (pos 0), place) at (v.low i (omega arith) (omega arith))

  pub none_high : ValuesBelow z (part l m left right t) 0 (length (part l m left right t)) → RowBelow stage m l left right t (record { first = right; end = left })
  none_high v = record { before = λ s h k. low v s (omega arith) (omega (arith, many)) k; behind = λ s h k. low v s (omega arith) (omega (arith, many)) k }

  pub some_high : {first end : ℕ} → first < length (part l m left right t) → ValuesBelow z (part l m left right t) 0 first → ValuesBelow z (part l m left right t) end (length (part l m left right t))
      → RowBelow stage m l left right t (record { first = left + first; end = left + end })
  some_high f v w = record { before = λ s h k. low v s (omega arith) k (omega (arith, many)); behind = λ s h k. low w s h (omega (arith, many)) k }
