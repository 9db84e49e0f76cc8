-- The ring: a lattice row's sums take the place of those of the fourth row before it, and the last four stay.
use mathlib.Core.Path.{◌≡◌, sym, ap, ◌∙◌}
use mathlib.Core.Logic.{inl, inr}
use mathlib.Core.List.{List}
use Prim.Native.Nat.{ℕ, ◌+◌, ◌-◌, ◌*◌, ◌%◌, ◌≤◌, ◌<◌}
use native.Mathlib.Decide.{dec_lt}
use native.Mathlib.Omega.{arith}
use lib.IntN.{ℤ, pos}
use lib.ListN.{length, get_or, set}
use Rattle.algebra.specs.Table.{Apart, tabulate, laid, length_tabulate, get_d_tabulate, length_laid, get_d_laid, get_d_apart, laid_none, laid_store}
use Rattle.strips.specs.Strips.{column_sum, Ringed, Spared}
use Rattle.strips.specs.declared.piece.Strip.{Strip}

-- the ring with the sums of lattice row r too, at columns from to to - 1
abbrev pub with_row : Strip → List ℤ → ℕ → ℕ → ℕ → List ℤ → List ℤ
with_row s l r from to ring = laid (r % 4 * 64 + from) (tabulate (to - from) (λ k. column_sum s l r (from + k))) ring

pub sums_none : (s : Strip) (l : List ℤ) (r from : ℕ) (ring : List ℤ) → ring ≡ with_row s l r from from ring
unfolding tabulate
sums_none s l r from ring = let none : from - from ≡ 0 = omega arith in rw none (sym (laid_none (r % 4 * 64 + from) ring))

-- a store at the next column is one sum more
pub sums_more : (s : Strip) (l : List ℤ) (r from i : ℕ) (first : List ℤ) {ring : List ℤ} {v : ℤ} → from ≤ i → r % 4 * 64 + i < length first
    → ring ≡ with_row s l r from i first → v ≡ column_sum s l r i → set ring (r % 4 * 64 + i) v ≡ with_row s l r from (i + 1) first
sums_more s l r from i first h room had is =
    let k = i - from in
    let place : r % 4 * 64 + i ≡ r % 4 * 64 + from + k = omega arith in
    let more : i + 1 - from ≡ k + 1 = omega arith in
    let same : i ≡ from + k = omega arith in
    rw (place, more) (laid_store (r % 4 * 64 + from) k (λ k. column_sum s l r (from + k)) first (omega arith) had (is ∙ ap (column_sum s l r) same))

pub ring_more : (s : Strip) (l : List ℤ) (from to last r : ℕ) {before after : List ℤ} → from ≤ to → to ≤ 64 → r < last
    → after ≡ with_row s l r from to before → Ringed s l from to last r before → Ringed s l from to last (r + 1) after
ring_more s l from to last r {before} {after} order narrow below row had =
    record { whole = ap length row ∙ length_laid start sums before (rw many (omega (arith, had.whole))) ∙ had.whole; sum = λ t i a b m n. go t i a b m n (dec_lt t r) }
  where
    start : ℕ
    start = r % 4 * 64 + from

    sum : ℕ → ℤ
    sum k = column_sum s l r (from + k)

    sums : List ℤ
    sums = tabulate (to - from) sum

    many : length sums ≡ to - from
    many = length_tabulate (to - from) sum

    apart : (t i : ℕ) → t < r → r < t + 4 → i < to → Dec (t % 4 < r % 4) → Apart (t % 4 * 64 + i) 1 start (length sums)
    apart t i h k n (yes a) = inl (omega arith)
    apart t i h k n (no b) = inr (rw many (omega arith))

    go : (t i : ℕ) → last ≤ t + 4 → t < r + 1 → from ≤ i → i < to → Dec (t < r) → get_or after (t % 4 * 64 + i) (pos 0) ≡ column_sum s l t i
    go t i a b m n (yes d) =
        ap (λ d. get_or d (t % 4 * 64 + i) (pos 0)) row
        ∙ get_d_apart (t % 4 * 64 + i) start sums before (pos 0) (apart t i d (omega arith) n (dec_lt (t % 4) (r % 4))) (omega (arith, had.whole))
        ∙ had.sum t i a d m n
    go t i a b m n (no d) =
        let same : t ≡ r = omega arith in
        let k = i - from in
        let place : r % 4 * 64 + i ≡ start + k = omega arith in
        let column : from + k ≡ i = omega arith in
        rw same
        (ap (λ q. get_or after q (pos 0)) place
        ∙ ap (λ d. get_or d (start + k) (pos 0)) row
        ∙ get_d_laid start sums before k (pos 0) (rw many (omega arith)) (omega (arith, had.whole))
        ∙ get_d_tabulate (to - from) sum k (pos 0) (omega arith)
        ∙ ap (column_sum s l r) column)

-- one row's sums spare the other columns
pub row_spared : (r from to : ℕ) (f : ℕ → ℤ) {before after : List ℤ} → from ≤ to → to ≤ 64 → length before ≡ 256
    → after ≡ laid (r % 4 * 64 + from) (tabulate (to - from) f) before → Spared from to before after
row_spared r from to f {before} {after} order narrow whole row =
    record { left = λ t i h. same t i (left t i h (dec_lt (r % 4) (t % 4))); right = λ t i m n. same t i (right t i m n (dec_lt (t % 4) (r % 4))) }
  where
    start : ℕ
    start = r % 4 * 64 + from

    sums : List ℤ
    sums = tabulate (to - from) f

    many : length sums ≡ to - from
    many = length_tabulate (to - from) f

    left : (t i : ℕ) → i < from → Dec (r % 4 < t % 4) → Apart (t % 4 * 64 + i) 1 start (length sums)
    left t i h (yes a) = inr (rw many (omega arith))
    left t i h (no b) = inl (omega arith)

    right : (t i : ℕ) → to ≤ i → i < 64 → Dec (t % 4 < r % 4) → Apart (t % 4 * 64 + i) 1 start (length sums)
    right t i m n (yes a) = inl (omega arith)
    right t i m n (no b) = inr (rw many (omega arith))

    same : (t i : ℕ) → Apart (t % 4 * 64 + i) 1 start (length sums) → get_or after (t % 4 * 64 + i) (pos 0) ≡ get_or before (t % 4 * 64 + i) (pos 0)
    same t i apart =
        ap (λ d. get_or d (t % 4 * 64 + i) (pos 0)) row
        ∙ get_d_apart (t % 4 * 64 + i) start sums before (pos 0) apart (omega (arith, whole))
