-- The levels of a fit as two sequences of lattices, the level lattices and the running lattices: how far the exact surface of a running lattice
-- is from the sum of the level surfaces, and that it is this sum where the control values are multiples of enough powers of 64.
use Rattle.std.specs.Prelude.{◌≡◌, [], ◌∷◌, nat_abs, ◌-ℤ◌, ◌*ℤ◌}
use Rattle.std.proofs.Common.{sym, ◌∙◌, mul-le-mul_left}
use Rattle.std.proofs.Math.Path.{ap, ap₂, fun_ext}
use Prim.Native.Nat.{ℕ, zero, suc, ◌+◌, ◌-◌, ◌*◌, ◌^◌, ◌≤◌, ◌<◌}
use Rattle.std.proofs.Math.Nat.{sub_self, mul-one, pow-suc, pow-succ'}
use native.Mathlib.Omega.{arith}
use Rattle.std.proofs.Math.IntN.{ℤ, pos, ◌+ℤ◌, +ℤ_invr}
use Rattle.algebra.specs.Ring.{*ℤ_assoc, *ℤ_distribl, *ℤ_left_comm}
use Rattle.algebra.specs.Solver.{var, con, ◌⊞◌, ◌⊟◌, ◌⊠◌, solve}
use Rattle.algebra.specs.Size.{nat_abs_sum, nat_abs_product, same_of_nat_abs}
use Rattle.rules.specs.Grid.{Lattice, cells_at}
use Rattle.rules.specs.Surface.{surface}
use Rattle.rules.specs.Refinement.{finer, finer2, refined}
use Rattle.rules.specs.Fit.{sum_to}
use Rattle.rules.proofs.Laws.Rounding.{near_exact}
use Rattle.rules.proofs.Laws.TwoScale.{finer_multiple, finer2_reads, two_scale2}
use Rattle.rules.specs.Laws.Surface.{Bounded, Same, Inside, full}
use Rattle.rules.proofs.Laws.Surface.{full_double, surface_sum, surface_scale, surface_reads, surface_bound, refined_distance}
use Rattle.rules.specs.Laws.Levels.{Multiples, Levels, surface_at, surfaces_to}

-- ---- from a level to the next: twice the cells, each half as wide

pub cells_double : (m0 k : ℕ) → cells_at m0 (suc k) ≡ 2 * cells_at m0 k
unfolding cells_at
cells_double m0 k = rw (pow-succ' 2 k) (omega arith)

unit_double : (u k : ℕ) → u * 2 ^ suc k ≡ 2 * u * 2 ^ k
unit_double u k = rw (pow-succ' 2 k) (omega arith)

-- the denominator 36U⁶, k levels back
pub full_power : (u k : ℕ) → full (u * 2 ^ k) ≡ 64 ^ k * full u
full_power u zero = rw (mul-one u) (omega arith)
full_power u (suc k) = rw (unit_double u k, full_power (2 * u) k, full_double u, pow-succ' 64 k) (omega arith)

power_before : (h k : ℕ) → k < h → 64 ^ (h - k) ≡ 64 * 64 ^ (h - suc k)
power_before h k l = let e : h - k ≡ suc (h - suc k) = omega arith in rw e (pow-succ' 64 (h - suc k))

-- ---- one refinement

-- what rounding adds to 64 times a refined control value
excess : Lattice → Lattice
excess f s t = pos 64 *ℤ refined f s t -ℤ finer2 f s t

excess_bound : (m n : ℕ) (f : Lattice) → Bounded m n (λ s t. pos 2 *ℤ excess f s t) 64
unfolding excess
excess_bound m n f = record { size = λ s t h k. refined_distance f s t }

-- the refined lattice has the surface of the one that it comes from, but for the excess
refined_surface : (U m n : ℕ) (f : Lattice) (x y : ℕ)
    → pos 64 *ℤ surface U (2 * m) (2 * n) (refined f) x y ≡ surface (2 * U) m n f x y +ℤ surface U (2 * m) (2 * n) (excess f) x y
unfolding excess
refined_surface U m n f x y =
    let S : Lattice → ℤ = λ g. surface U (2 * m) (2 * n) g x y in
    sym (surface_scale U (2 * m) (2 * n) (pos 64) (refined f) x y)
    ∙ ap S (fun_ext λ s. fun_ext λ t. parts (pos 64 *ℤ refined f s t) (finer2 f s t))
    ∙ surface_sum U (2 * m) (2 * n) (finer2 f) (excess f) x y
    ∙ ap (λ z. z +ℤ S (excess f)) (sym (two_scale2 U m n f x y))
  where
    parts : (r v : ℤ) → r ≡ v +ℤ (r -ℤ v)
    parts r v = solve (var 0) (var 1 ⊞ (var 0 ⊟ var 1)) (r ∷ v ∷ []) tt

-- a surface that is added at level k + 1, where twice its control values are at most 64E
scaled_bound : (u m n x y : ℕ) → Inside u m n x y → (k E : ℕ) (f : Lattice) → Bounded m n (λ s t. pos 2 *ℤ f s t) (64 * E)
    → nat_abs (pos 2 *ℤ (pos (64 ^ k) *ℤ surface u m n f x y)) ≤ full (2 * u * 2 ^ k) * E
scaled_bound u m n x y i k E f b =
    let twice : Lattice = λ s t. pos 2 *ℤ f s t in
    rw (
      *ℤ_left_comm (pos 2) (pos (64 ^ k)) (surface u m n f x y),
      ← surface_scale u m n (pos 2) f x y,
      nat_abs_product (pos (64 ^ k)) (surface u m n twice x y),
      full_power (2 * u) k,
      full_double u,
    )
    (omega (arith, mul-le-mul_left (64 ^ k) (surface_bound u m n x y i twice (64 * E) b)))

multiples_sum : (d m n : ℕ) (f g e : Lattice) → Same m n e (λ s t. f s t +ℤ g s t) → Multiples d m n f → Multiples d m n g → Multiples d m n e
multiples_sum d m n f g e S M N = record {
  factor = λ s t. M.factor s t +ℤ N.factor s t;
  is = record {
    same = λ s t h k.
        S.same s t h k
        ∙ ap₂ ◌+ℤ◌ (M.is.same s t h k) (N.is.same s t h k)
        ∙ sym (*ℤ_distribl (pos d) (M.factor s t) (N.factor s t));
  };
}

finer2_scale : (c : ℤ) (f : Lattice) (s t : ℕ) → finer2 (λ q r. c *ℤ f q r) s t ≡ c *ℤ finer2 f s t
unfolding finer2
finer2_scale c f s t =
    ap (λ g. finer g t) (fun_ext λ r. finer_multiple c (λ q. f q r) s) ∙ finer_multiple c (λ r. finer (λ q. f q r) s) t

module _ (d m n : ℕ) (f : Lattice) (M : Multiples (64 * d) m n f) where
  -- Of multiples of 64d the doubly weighted sums are 64 times multiples of d,
  finer2_multiples : (s t : ℕ) → s < 2 * m + 3 → t < 2 * n + 3 → finer2 f s t ≡ pos 64 *ℤ (pos d *ℤ finer2 M.factor s t)
  finer2_multiples s t h k =
      finer2_reads m n f (λ q r. pos (64 * d) *ℤ M.factor q r) M.is.same s t h k
      ∙ finer2_scale (pos (64 * d)) M.factor s t
      ∙ *ℤ_assoc (pos 64) (pos d) (finer2 M.factor s t)

  -- so that nothing is rounded:
  refined_exact : (s t : ℕ) → s < 2 * m + 3 → t < 2 * n + 3 → refined f s t ≡ pos d *ℤ finer2 M.factor s t
  unfolding refined
  refined_exact s t h k = rw (finer2_multiples s t h k) (near_exact (pos d *ℤ finer2 M.factor s t) 64 (omega arith))

  -- the refined values are multiples of d,
  refined_multiples : Multiples d (2 * m) (2 * n) (refined f)
  refined_multiples = record { factor = finer2 M.factor; is = record { same = refined_exact } }

  -- and there is no excess.
  excess_none : Bounded (2 * m) (2 * n) (λ s t. pos 2 *ℤ excess f s t) 0
  unfolding excess
  excess_none = record {
    size = λ s t h k. rw (finer2_multiples s t h k, refined_exact s t h k, +ℤ_invr (pos 64 *ℤ (pos d *ℤ finer2 M.factor s t))) (omega arith);
  }

-- how far the surface of running lattice k is from that sum
off : ℕ → ℕ → ℕ → ℕ → ℕ → ℕ → (ℕ → Lattice) → (ℕ → Lattice) → ℤ
off m0 n0 x y u k L R = surface_at m0 n0 x y u k (R k) -ℤ surfaces_to m0 n0 x y u k L

sum_to_same : (k : ℕ) (f g : ℕ → ℤ) → ((j : ℕ) → j ≤ k → f j ≡ g j) → sum_to k f ≡ sum_to k g
unfolding sum_to
sum_to_same zero f g h = h 0 (omega arith)
sum_to_same (suc k) f g h = ap₂ ◌+ℤ◌ (sum_to_same k f g (λ j l. h j (omega arith))) (h (suc k) (omega arith))

module _ (m0 n0 x y : ℕ) where
  -- a position of level k + 1 is one of level k, whose cells are twice as wide
  inside_before : (u k : ℕ) → Inside u (cells_at m0 (suc k)) (cells_at n0 (suc k)) x y → Inside (2 * u) (cells_at m0 k) (cells_at n0 k) x y
  inside_before u k i =
      let j : Inside u (2 * cells_at m0 k) (2 * cells_at n0 k) x y = rw (cells_double m0 k, cells_double n0 k) at i in
      omega arith

  surfaces_to_next : (u k : ℕ) (L : ℕ → Lattice)
      → surfaces_to m0 n0 x y u (suc k) L ≡ surfaces_to m0 n0 x y (2 * u) k L +ℤ surface_at m0 n0 x y u (suc k) (L (suc k))
  unfolding surfaces_to sum_to
  surfaces_to_next u k L =
      ap₂ ◌+ℤ◌
      (sum_to_same k _ _ (λ j l. ap (λ v. surface_at m0 n0 x y v j (L j)) (before j l)))
      (ap (λ v. surface_at m0 n0 x y v (suc k) (L (suc k))) (ap (λ d. u * 2 ^ d) (sub_self (suc k)) ∙ mul-one u))
    where
      before : (j : ℕ) → j ≤ k → u * 2 ^ (suc k - j) ≡ 2 * u * 2 ^ (k - j)
      before j l = let e : suc k - j ≡ suc (k - j) = omega arith in rw e (unit_double u (k - j))

  module _ (L R : ℕ → Lattice) (levels : Levels m0 n0 L R) where
    -- a level adds the surface of the excess
    off_next : (u k : ℕ) → Inside u (cells_at m0 (suc k)) (cells_at n0 (suc k)) x y
        → off m0 n0 x y u (suc k) L R
        ≡ off m0 n0 x y (2 * u) k L R +ℤ pos (64 ^ k) *ℤ surface u (cells_at m0 (suc k)) (cells_at n0 (suc k)) (excess (R k)) x y
    unfolding off surface_at
    off_next u k i =
        let m = cells_at m0 (suc k) in
        let n = cells_at n0 (suc k) in
        let S : Lattice → ℤ = λ f. surface u m n f x y in
        let coarser : ℤ = surface (2 * u) (cells_at m0 k) (cells_at n0 k) (R k) x y in
        rw (
          surfaces_to_next u k L,
          surface_reads u m n i.across i.up (R (suc k)) _ (levels.next k) x y,
          surface_sum u m n (refined (R k)) (L (suc k)) x y,
          pow-suc 64 k,
        )
        (parts (pos (64 ^ k)) (S (refined (R k))) (S (L (suc k))) (surfaces_to m0 n0 x y (2 * u) k L) coarser (S (excess (R k)))
        (rw (cells_double m0 k, cells_double n0 k) (refined_surface u (cells_at m0 k) (cells_at n0 k) (R k) x y)))
      where
        parts : (P r l s c e : ℤ) → pos 64 *ℤ r ≡ c +ℤ e → P *ℤ pos 64 *ℤ (r +ℤ l) -ℤ (s +ℤ P *ℤ pos 64 *ℤ l) ≡ P *ℤ c -ℤ s +ℤ P *ℤ e
        parts P r l s c e h =
            let p = var 0 in
            let n = con (pos 64) in
            solve (p ⊠ n ⊠ (var 1 ⊞ var 2) ⊟ (var 3 ⊞ p ⊠ n ⊠ var 2)) (p ⊠ (n ⊠ var 1) ⊟ var 3) (P ∷ r ∷ l ∷ s ∷ []) tt
            ∙ ap (λ z. P *ℤ z -ℤ s) h
            ∙ solve (p ⊠ (var 1 ⊞ var 2) ⊟ var 3) (p ⊠ var 1 ⊟ var 3 ⊞ p ⊠ var 2) (P ∷ c ∷ e ∷ s ∷ []) tt

    -- Twice the excess is at most 64E at every place: E is 1 where values are rounded and 0 where none is. Then twice the surface is off by at
    -- most E a level, over the denominator 36(u·2^k)⁶. The induction is over k for every u: a level back the cells are twice as wide.
    off_by : (E u k : ℕ) → Inside u (cells_at m0 k) (cells_at n0 k) x y
        → ((j : ℕ) → j < k → Bounded (cells_at m0 (suc j)) (cells_at n0 (suc j)) (λ s t. pos 2 *ℤ excess (R j) s t) (64 * E))
        → nat_abs (pos 2 *ℤ off m0 n0 x y u k L R) ≤ k * (full (u * 2 ^ k) * E)
    unfolding off surfaces_to sum_to
    off_by E u zero i b = rw (mul-one u, levels.first, +ℤ_invr (surface_at m0 n0 x y u 0 (L 0))) (omega arith)
    off_by E u (suc k) i b =
        let m = cells_at m0 (suc k) in
        let n = cells_at n0 (suc k) in
        let before = off m0 n0 x y (2 * u) k L R in
        let e = pos (64 ^ k) *ℤ surface u m n (excess (R k)) x y in
        rw (off_next u k i, *ℤ_distribl (pos 2) before e, unit_double u k)
        (omega (
          arith,
          nat_abs_sum (pos 2 *ℤ before) (pos 2 *ℤ e),
          off_by E (2 * u) k (inside_before u k i) (λ j l. b j (omega arith)),
          scaled_bound u m n x y i k E (excess (R k)) (b k (omega arith)),
        ))

    -- so by at most k, however values are rounded,
    pub surface_off : (u k : ℕ) → Inside u (cells_at m0 k) (cells_at n0 k) x y
        → nat_abs (pos 2 *ℤ (surface_at m0 n0 x y u k (R k) -ℤ surfaces_to m0 n0 x y u k L)) ≤ k * full (u * 2 ^ k)
    unfolding off
    surface_off u k i = rw mul-one at (off_by 1 u k i (λ j l. excess_bound (cells_at m0 (suc j)) (cells_at n0 (suc j)) (R j)))

    -- and by nothing, where the values of each level are multiples of 64 for each refinement from it to level h.
    module _ (h : ℕ) (multiples : (k : ℕ) → k ≤ h → Multiples (64 ^ (h - k)) (cells_at m0 k) (cells_at n0 k) (L k)) where
      running_multiples : (k : ℕ) → k ≤ h → Multiples (64 ^ (h - k)) (cells_at m0 k) (cells_at n0 k) (R k)
      running_multiples zero l = rw levels.first (multiples 0 l)
      running_multiples (suc k) l =
          let d = 64 ^ (h - suc k) in
          let before : Multiples (64 * d) (cells_at m0 k) (cells_at n0 k) (R k) = rw (power_before h k l) at (running_multiples k (omega arith)) in
          multiples_sum d (cells_at m0 (suc k)) (cells_at n0 (suc k)) (refined (R k)) (L (suc k)) (R (suc k)) (levels.next k)
          (rw (cells_double m0 k, cells_double n0 k) (refined_multiples d (cells_at m0 k) (cells_at n0 k) (R k) before)) (multiples (suc k) l)

      pub surface_equal : (u : ℕ) → Inside u (cells_at m0 h) (cells_at n0 h) x y → surface_at m0 n0 x y u h (R h) ≡ surfaces_to m0 n0 x y u h L
      unfolding off
      surface_equal u i =
          let v = surface_at m0 n0 x y u h (R h) in
          let s = surfaces_to m0 n0 x y u h L in
          let none = off_by 0 u h i exact in
          same_of_nat_abs v s (omega (arith, nat_abs_product (pos 2) (v -ℤ s)))
        where
          exact : (j : ℕ) → j < h → Bounded (cells_at m0 (suc j)) (cells_at n0 (suc j)) (λ s t. pos 2 *ℤ excess (R j) s t) 0
          exact j l =
              rw (cells_double m0 j, cells_double n0 j)
              (excess_none (64 ^ (h - suc j)) (cells_at m0 j) (cells_at n0 j) (R j) (rw (power_before h j l) at (running_multiples j (omega arith))))
