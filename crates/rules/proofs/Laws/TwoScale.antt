-- Refinement keeps the surface: the sum over the old values at unit 2U is the sum over the weighted sums at unit U, along one axis and along
-- two. The weighted sum is linear, reads only old places near it, and is at most 8 times, on two axes 64 times, as large as those values.
use Rattle.std.specs.Prelude.{◌≡◌, refl, [], ◌∷◌, ℤ, nat_abs, ◌*ℤ◌}
use Rattle.std.proofs.Common.{sym, ◌∙◌, mul_comm, arith}
use Rattle.std.proofs.Math.Path.{ap, ap₂, fun_ext}
use Prim.Native.Nat.{ℕ, zero, suc, ◌+◌, ◌*◌, ◌/◌, ◌%◌, ◌≤◌, ◌<◌}
use Rattle.std.proofs.Math.Nat.{div-div-eq-div-mul}
use Rattle.std.proofs.Math.Decide.{dec_lt}
use Rattle.std.proofs.Math.IntN.{pos, ◌+ℤ◌}
use Rattle.algebra.specs.Solver.{Expr, var, con, ◌⊞◌, ◌⊠◌, solve}
use Rattle.algebra.specs.Size.{nat_abs_sum, nat_abs_product}
use Rattle.rules.specs.Grid.{Lattice}
use Rattle.rules.specs.Surface.{square, cube, numerator, cell, offset, weighted, along, surface}
use Rattle.rules.specs.Laws.Basis.{quoted}
use Rattle.rules.proofs.Laws.Basis.{cell_offset, along_sum, along_scale}
use Rattle.rules.specs.Refinement.{masked, finer, finer2}
use Rattle.rules.specs.Laws.TwoScale.{Halved, first, second}

-- ---- the weighted sum by places

even_place : (f : ℕ → ℤ) (s i j : ℕ) → s ≡ 2 * i → j ≡ i + 1 → finer f s ≡ pos 4 *ℤ f i +ℤ pos 4 *ℤ f j
unfolding finer masked
even_place f s i j e h =
    let r : s % 2 ≡ 0 = omega arith in
    let q : s / 2 ≡ i = omega arith in
    rw (r, q, h)

odd_place : (f : ℕ → ℤ) (s i j k : ℕ) → s ≡ 2 * i + 1 → j ≡ i + 1 → k ≡ i + 2 → finer f s ≡ f i +ℤ pos 6 *ℤ f j +ℤ f k
unfolding finer masked
odd_place f s i j k e h l =
    let r : s % 2 ≡ 1 = omega arith in
    let q : s / 2 ≡ i = omega arith in
    rw (r, q, h, l)

pub finer_even : (f : ℕ → ℤ) (i : ℕ) → finer f (2 * i) ≡ pos 4 *ℤ f i +ℤ pos 4 *ℤ f (i + 1)
finer_even f i = even_place f (2 * i) i (i + 1) refl refl

pub finer_odd : (f : ℕ → ℤ) (i : ℕ) → finer f (2 * i + 1) ≡ f i +ℤ pos 6 *ℤ f (i + 1) +ℤ f (i + 2)
finer_odd f i = odd_place f (2 * i + 1) i (i + 1) (i + 2) refl refl refl

-- by the parity and the first old place that it weighs
pub finer_at : (p : ℕ) (f : ℕ → ℤ) (i : ℕ) → p < 2 → finer f (2 * i + p) ≡ masked p f i
unfolding finer
finer_at p f i h =
    let r : (2 * i + p) % 2 ≡ p = omega arith in
    let q : (2 * i + p) / 2 ≡ i = omega arith in
    rw (r, q)

-- ---- it is linear

-- the two masks, for the solver: v k quotes the value k places on
even : (ℕ → Expr) → Expr
even v = con (pos 4) ⊠ v 0 ⊞ con (pos 4) ⊠ v 1

odd : (ℕ → Expr) → Expr
odd v = v 0 ⊞ con (pos 6) ⊠ v 1 ⊞ v 2

from : ℕ → ℕ → Expr
from i k = var (i + k)

masked_sum : (p : ℕ) (f g : ℕ → ℤ) (c : ℕ) → masked p (λ s. f s +ℤ g s) c ≡ masked p f c +ℤ masked p g c
unfolding masked even odd from
masked_sum zero f g c =
    solve (even (λ k. from 0 k ⊞ from 2 k)) (even (from 0) ⊞ even (from 2)) (f c ∷ f (c + 1) ∷ g c ∷ g (c + 1) ∷ []) tt
masked_sum (suc p) f g c =
    solve (odd (λ k. from 0 k ⊞ from 3 k)) (odd (from 0) ⊞ odd (from 3)) (f c ∷ f (c + 1) ∷ f (c + 2) ∷ g c ∷ g (c + 1) ∷ g (c + 2) ∷ []) tt

pub finer_sum : (f g : ℕ → ℤ) (s : ℕ) → finer (λ r. f r +ℤ g r) s ≡ finer f s +ℤ finer g s
unfolding finer
finer_sum f g s = masked_sum (s % 2) f g (s / 2)

masked_multiple : (p : ℕ) (k : ℤ) (f : ℕ → ℤ) (c : ℕ) → masked p (λ s. k *ℤ f s) c ≡ k *ℤ masked p f c
unfolding masked even odd from
masked_multiple zero k f c = solve (even (λ i. var 0 ⊠ from 1 i)) (var 0 ⊠ even (from 1)) (k ∷ f c ∷ f (c + 1) ∷ []) tt
masked_multiple (suc p) k f c = solve (odd (λ i. var 0 ⊠ from 1 i)) (var 0 ⊠ odd (from 1)) (k ∷ f c ∷ f (c + 1) ∷ f (c + 2) ∷ []) tt

pub finer_multiple : (k : ℤ) (f : ℕ → ℤ) (s : ℕ) → finer (λ r. k *ℤ f r) s ≡ k *ℤ finer f s
unfolding finer
finer_multiple k f s = masked_multiple (s % 2) k f (s / 2)

-- ---- what it reads

masked_reads : (p : ℕ) (f g : ℕ → ℤ) (c : ℕ) → ((r : ℕ) → r ≤ c + 1 + p → f r ≡ g r) → masked p f c ≡ masked p g c
unfolding masked
masked_reads zero f g c h = rw (h c (omega arith), h (c + 1) (omega arith))
masked_reads (suc p) f g c h = rw (h c (omega arith), h (c + 1) (omega arith), h (c + 2) (omega arith))

pub finer_reads : (m : ℕ) (f g : ℕ → ℤ) → ((s : ℕ) → s < m + 3 → f s ≡ g s) → (s : ℕ) → s < 2 * m + 3 → finer f s ≡ finer g s
unfolding finer
finer_reads m f g h s l = masked_reads (s % 2) f g (s / 2) (λ r k. h r (omega arith))

pub finer2_reads : (m n : ℕ) (f g : Lattice) → ((s t : ℕ) → s < m + 3 → t < n + 3 → f s t ≡ g s t)
    → (s t : ℕ) → s < 2 * m + 3 → t < 2 * n + 3 → finer2 f s t ≡ finer2 g s t
unfolding finer2
finer2_reads m n f g h s t ls lt =
    finer_reads n _ _ (λ r k. finer_reads m _ _ (λ q j. h q r j k) s ls) t lt

-- ---- how large it is

pub masked_size : (p : ℕ) (f : ℕ → ℤ) (c B : ℕ) → ((r : ℕ) → r ≤ c + 1 + p → nat_abs (f r) ≤ B) → nat_abs (masked p f c) ≤ 8 * B
unfolding masked
masked_size zero f c B h =
    let x = f c in
    let y = f (c + 1) in
    omega (arith, h c (omega arith), h (c + 1) (omega arith), nat_abs_sum (pos 4 *ℤ x) (pos 4 *ℤ y), nat_abs_product (pos 4) x, nat_abs_product (pos 4) y)
masked_size (suc p) f c B h =
    let x = f c in
    let y = f (c + 1) in
    let z = f (c + 2) in
    omega (arith, h c (omega arith), h (c + 1) (omega arith), h (c + 2) (omega arith), nat_abs_sum (x +ℤ pos 6 *ℤ y) z, nat_abs_sum x (pos 6 *ℤ y), nat_abs_product (pos 6) y)

pub finer_size : (m : ℕ) (f : ℕ → ℤ) (B : ℕ) → ((s : ℕ) → s < m + 3 → nat_abs (f s) ≤ B) → (s : ℕ) → s < 2 * m + 3 → nat_abs (finer f s) ≤ 8 * B
unfolding finer
finer_size m f B h s l = masked_size (s % 2) f (s / 2) B (λ r k. h r (omega arith))

pub finer2_size : (m n : ℕ) (f : Lattice) (B : ℕ) → ((s t : ℕ) → s < m + 3 → t < n + 3 → nat_abs (f s t) ≤ B)
    → (s t : ℕ) → s < 2 * m + 3 → t < 2 * n + 3 → nat_abs (finer2 f s t) ≤ 64 * B
unfolding finer2
finer2_size m n f B h s t ls lt =
    omega (arith, finer_size n (λ r. finer (λ q. f q r) s) (8 * B) (λ r k. finer_size m (λ q. f q r) B (λ q j. h q r j k) s ls) t lt)

-- ---- where a position lies in the two grids

cell_half : (U m x : ℕ) → cell (2 * U) m x ≡ cell U (2 * m) x / 2
unfolding cell
cell_half U m x =
    let e : x / (2 * U) ≡ x / U / 2 = ap (λ (d : ℕ). x / d) (mul_comm 2 U) ∙ sym (div-div-eq-div-mul x U 2) in
    omega arith

split_cell : (U x c a d b : ℕ) → c ≡ d / 2 → c * (2 * U) + a ≡ x → d * U + b ≡ x → Halved U c a d b
split_cell U x c a d b h k l = go (dec_lt (2 * c) d)
  where
    go : Dec (2 * c < d) → Halved U c a d b
    go (yes n) = let e : d ≡ 2 * c + 1 = omega arith in second e (omega (arith, ap (λ (k : ℕ). k * U) e))
    go (no n) = let e : d ≡ 2 * c = omega arith in first e (omega (arith, ap (λ (k : ℕ). k * U) e))

-- so at every position, the far edge included, which lies in the last cell of both grids
pub halves : (U m x : ℕ) → Halved U (cell (2 * U) m x) (offset (2 * U) m x) (cell U (2 * m) x) (offset U (2 * m) x)
halves U m x = split_cell U x _ _ _ _ (cell_half U m x) (cell_offset (2 * U) m x) (cell_offset U (2 * m) x)

-- ---- the sum keeps its value

-- the sum in a cell, by the offset and the four values
weigh : ℤ → ℤ → ℤ → ℤ → ℤ → ℤ → ℤ
weigh U a p q r s = numerator U a 0 *ℤ p +ℤ numerator U a 1 *ℤ q +ℤ numerator U a 2 *ℤ r +ℤ numerator U a 3 *ℤ s

-- `weigh`, for the solver
weighed : Expr → Expr → Expr → Expr → Expr → Expr → Expr
weighed U a p q r s = quoted U a 0 ⊠ p ⊞ quoted U a 1 ⊠ q ⊞ quoted U a 2 ⊠ r ⊞ quoted U a 3 ⊠ s

first_half : (U a p q r s : ℤ)
    → weigh (pos 2 *ℤ U) a p q r s
    ≡ weigh U a (pos 4 *ℤ p +ℤ pos 4 *ℤ q) (p +ℤ pos 6 *ℤ q +ℤ r) (pos 4 *ℤ q +ℤ pos 4 *ℤ r) (q +ℤ pos 6 *ℤ r +ℤ s)
unfolding weigh numerator square cube quoted weighed even odd from
first_half U a p q r s =
    solve (weighed (con (pos 2) ⊠ var 4) (var 5) (var 0) (var 1) (var 2) (var 3)) (weighed (var 4) (var 5) (even (from 0)) (odd (from 0)) (even (from 1)) (odd (from 1)))
    (p ∷ q ∷ r ∷ s ∷ U ∷ a ∷ []) tt

second_half : (U a p q r s : ℤ)
    → weigh (pos 2 *ℤ U) (U +ℤ a) p q r s
    ≡ weigh U a (p +ℤ pos 6 *ℤ q +ℤ r) (pos 4 *ℤ q +ℤ pos 4 *ℤ r) (q +ℤ pos 6 *ℤ r +ℤ s) (pos 4 *ℤ r +ℤ pos 4 *ℤ s)
unfolding weigh numerator square cube quoted weighed even odd from
second_half U a p q r s =
    solve (weighed (con (pos 2) ⊠ var 4) (var 4 ⊞ var 5) (var 0) (var 1) (var 2) (var 3)) (weighed (var 4) (var 5) (odd (from 0)) (even (from 1)) (odd (from 1)) (even (from 2)))
    (p ∷ q ∷ r ∷ s ∷ U ∷ a ∷ []) tt

pub two_scale : (U m x : ℕ) (f : ℕ → ℤ) → along (2 * U) m x f ≡ along U (2 * m) x (finer f)
unfolding along weighted weigh
two_scale U m x f = go (halves U m x)
  where
    c : ℕ
    c = cell (2 * U) m x

    b : ℕ
    b = offset U (2 * m) x

    go : Halved U c (offset (2 * U) m x) (cell U (2 * m) x) b → along (2 * U) m x f ≡ along U (2 * m) x (finer f)
    go (first d a) =
        rw (
          d,
          a,
          finer_even f c,
          finer_odd f c,
          even_place f (2 * c + 2) (c + 1) (c + 2) (omega arith) (omega arith),
          odd_place f (2 * c + 3) (c + 1) (c + 2) (c + 3) (omega arith) (omega arith) (omega arith),
        )
        (first_half (pos U) (pos b) (f c) (f (c + 1)) (f (c + 2)) (f (c + 3)))
    go (second d a) =
        rw (
          d,
          a,
          finer_odd f c,
          even_place f (2 * c + 1 + 1) (c + 1) (c + 2) (omega arith) (omega arith),
          odd_place f (2 * c + 1 + 2) (c + 1) (c + 2) (c + 3) (omega arith) (omega arith) (omega arith),
          even_place f (2 * c + 1 + 3) (c + 2) (c + 3) (omega arith) (omega arith),
        )
        (second_half (pos U) (pos b) (f c) (f (c + 1)) (f (c + 2)) (f (c + 3)))

-- ---- two axes

-- a mask along one axis commutes with what is linear along the other
module _ (L : (ℕ → ℤ) → ℤ)
    (sum : (f g : ℕ → ℤ) → L (λ s. f s +ℤ g s) ≡ L f +ℤ L g)
    (multiple : (k : ℤ) (f : ℕ → ℤ) → L (λ s. k *ℤ f s) ≡ k *ℤ L f) where
  masked_linear : (p : ℕ) (f : Lattice) (c : ℕ) → L (λ s. masked p (f s) c) ≡ masked p (λ t. L (λ s. f s t)) c
  unfolding masked
  masked_linear zero f c =
      sum (λ s. pos 4 *ℤ f s c) (λ s. pos 4 *ℤ f s (c + 1)) ∙ ap₂ ◌+ℤ◌ (multiple (pos 4) (λ s. f s c)) (multiple (pos 4) (λ s. f s (c + 1)))
  masked_linear (suc p) f c =
      sum (λ s. f s c +ℤ pos 6 *ℤ f s (c + 1)) (λ s. f s (c + 2))
      ∙ ap (λ z. z +ℤ L (λ s. f s (c + 2)))
      (sum (λ s. f s c) (λ s. pos 6 *ℤ f s (c + 1)) ∙ ap (λ z. L (λ s. f s c) +ℤ z) (multiple (pos 6) (λ s. f s (c + 1))))

-- so does summing along it
pub finer_along : (U m x : ℕ) (f : Lattice) (t : ℕ) → along U m x (λ s. finer (f s) t) ≡ finer (λ r. along U m x (λ s. f s r)) t
unfolding finer
finer_along U m x f t = masked_linear (along U m x) (along_sum U m x) (along_scale U m x) (t % 2) f (t / 2)

-- and refining along it: down the columns first is along the rows first
pub finer_swap : (f : Lattice) (s t : ℕ) → finer (λ q. finer (f q) t) s ≡ finer2 f s t
unfolding finer finer2
finer_swap f s t = masked_linear (λ g. finer g s) (λ g h. finer_sum g h s) (λ k g. finer_multiple k g s) (t % 2) f (t / 2)

pub two_scale2 : (U m n : ℕ) (f : Lattice) (x y : ℕ) → surface (2 * U) m n f x y ≡ surface U (2 * m) (2 * n) (finer2 f) x y
unfolding surface finer2
two_scale2 U m n f x y =
    two_scale U n y (λ t. along (2 * U) m x (λ s. f s t))
    ∙ ap (along U (2 * n) y) (fun_ext λ t.
    ap (λ g. finer g t) (fun_ext λ r. two_scale U m x (λ s. f s r))
    ∙ sym (finer_along U (2 * m) x (λ s r. finer (λ q. f q r) s) t))
