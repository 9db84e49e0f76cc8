-- Laws of "Basis and height" along one axis, for any U: the numerators are weights that add up to 6U³, a position has its cell and
-- offset, a sum of any four weights is linear, decided by its four values and bounded by them, and so is the sum along an axis.
use Rattle.std.specs.Prelude.{◌≡◌, refl, List, [], ◌∷◌, pos, ◌-ℤ◌, ◌*ℤ◌, ◌≤ℤ◌}
use Rattle.std.proofs.Common.{sym, ◌∙◌, le_trans, mul-le-mul_left, mul-le-mul_right, mul-suc, mul_comm, div-mul-le_self, le-div_iff_mul-le, le→leb}
use Rattle.std.proofs.Math.Path.{ap, ap₂, fun_ext}
use Prim.Native.Nat.{ℕ, zero, suc, ◌+◌, ◌-◌, ◌*◌, ◌/◌, min, ◌≤◌, ◌<◌, zero-le}
use Rattle.std.proofs.Math.Nat.{add-sub_of_le, lt-div-mul-add, mul-div_right}
use Rattle.std.proofs.Math.Decide.{dec_lt}
use native.Mathlib.Omega.{arith}
use Rattle.std.proofs.Math.IntN.{ℤ, nat_abs, ◌+ℤ◌, +ℤ-neg_ℤ_cancel, -ℤ-+ℤ_cancel}
use Rattle.std.specs.Int.Signed.{le_z_yes}
use Rattle.algebra.specs.Solver.{Expr, var, con, ◌⊞◌, ◌⊠◌, solve}
use Rattle.algebra.specs.Size.{nat_abs_sum, nat_abs_product, ≤ℤ_sum, ≤ℤ_product}
use Rattle.rules.specs.Surface.{square, cube, numerator, denominator, cell, offset, weighted, along}
use Rattle.rules.specs.Laws.Basis.{weights, quoted, total_size}

-- so none is negative
pub numerator_weights : (a b : ℕ) {U : ℕ} → a + b ≡ U → (k : ℕ) → numerator (pos U) (pos a) k ≡ pos (weights a b k)
unfolding numerator weights square cube quoted
numerator_weights a b e k = rw (← e) (go k)
  where
    end : Expr → Expr
    end x = x ⊠ x ⊠ x

    middle : Expr → Expr → Expr
    middle x y = end x ⊞ con (pos 6) ⊠ (x ⊠ x ⊠ y) ⊞ con (pos 12) ⊠ (x ⊠ y ⊠ y) ⊞ con (pos 4) ⊠ end y

    q : ℕ → Expr
    q = quoted (var 0 ⊞ var 1) (var 0)

    ρ : List ℤ
    ρ = pos a ∷ pos b ∷ []

    go : (k : ℕ) → numerator (pos (a + b)) (pos a) k ≡ pos (weights a b k)
    go zero = solve (q 0) (end (var 1)) ρ tt
    go (suc zero) = solve (q 1) (middle (var 0) (var 1)) ρ tt
    go (suc (suc zero)) = solve (q 2) (middle (var 1) (var 0)) ρ tt
    go (suc (suc (suc k))) = refl

-- the partition of unity, at any U and a
pub numerators_sum : (U a : ℤ) → numerator U a 0 +ℤ numerator U a 1 +ℤ numerator U a 2 +ℤ numerator U a 3 ≡ pos 6 *ℤ cube U
unfolding numerator square cube quoted
numerators_sum U a =
    let q = quoted (var 0) (var 1) in
    solve (q 0 ⊞ q 1 ⊞ q 2 ⊞ q 3) (con (pos 6) ⊠ (var 0 ⊠ var 0 ⊠ var 0)) (U ∷ a ∷ []) tt

-- the weights add up to 6U³. A position a ≤ U has b = U - a
pub weights_sum : (a b : ℕ) {U : ℕ} → a + b ≡ U → weights a b 0 + weights a b 1 + weights a b 2 + weights a b 3 ≡ denominator U
unfolding denominator cube
weights_sum a b {U} e =
    let w : (k : ℕ) → numerator (pos U) (pos a) k ≡ pos (weights a b k) = numerator_weights a b e in
    ap nat_abs (rw (w 0, w 1, w 2, w 3) at (numerators_sum (pos U) (pos a)))

-- ---- cell and offset

-- m cells end where the last one does
last_cell : (U m : ℕ) → 0 < m → U * m ≡ (m - 1) * U + U
last_cell U m h =
    let e : m ≡ suc (m - 1) = omega arith in
    ap (λ k. U * k) e ∙ mul-suc U (m - 1) ∙ ap (λ p. p + U) (mul_comm U (m - 1))

module _ (U m x : ℕ) where
  pub cell_below : 0 < m → cell U m x < m
  unfolding cell
  cell_below h = omega arith

  pub cell_offset : cell U m x * U + offset U m x ≡ x
  unfolding cell offset
  cell_offset = add-sub_of_le (le_trans (mul-le-mul_right U (omega arith)) (div-mul-le_self x U))

  pub offset_within : 0 < U → 0 < m → x ≤ U * m → offset U m x ≤ U
  unfolding cell offset
  offset_within u h l = go (dec_lt (x / U) m)
    where
      go : Dec (x / U < m) → x - min (x / U) (m - 1) * U ≤ U
      go (yes k) = let e : min (x / U) (m - 1) ≡ x / U = omega arith in rw e (omega (arith, lt-div-mul-add {a = x} u))
      go (no k) = let e : min (x / U) (m - 1) ≡ m - 1 = omega arith in rw e (omega (arith, last_cell U m h))

-- a later position lies in no earlier cell
pub cell_mono : (U m x y : ℕ) → 0 < U → x ≤ y → cell U m x ≤ cell U m y
unfolding cell
cell_mono U m x y u h = omega (arith, (le-div_iff_mul-le {k = U} {x = x / U} {y = y} u).1 (le_trans (div-mul-le_self x U) h))

-- the far edge
pub cell_edge : (U m : ℕ) → 0 < U → cell U m (U * m) ≡ m - 1
unfolding cell
cell_edge U m h = rw (mul-div_right m h) (omega arith)

pub offset_edge : (U m : ℕ) → 0 < U → 0 < m → offset U m (U * m) ≡ U
unfolding offset
offset_edge U m h k = rw (cell_edge U m h) (omega (arith, last_cell U m k))

-- the sum of the four products of var 0 .. var 3 and what p quotes, for the solver
products : (ℕ → Expr) → Expr
products p = var 0 ⊠ p 0 ⊞ var 1 ⊠ p 1 ⊞ var 2 ⊠ p 2 ⊞ var 3 ⊠ p 3

-- the values of four variables: those of f from place c on
stored : (ℕ → ℤ) → ℕ → List ℤ → List ℤ
stored f c ρ = f c ∷ f (c + 1) ∷ f (c + 2) ∷ f (c + 3) ∷ ρ

module _ (w : ℕ → ℤ) where
  weighing : List ℤ → List ℤ
  weighing ρ = w 0 ∷ w 1 ∷ w 2 ∷ w 3 ∷ ρ

  -- the four values decide the sum, wherever they stand
  pub weighted_values : (f g : ℕ → ℤ) (c d : ℕ) → f c ≡ g d → f (c + 1) ≡ g (d + 1) → f (c + 2) ≡ g (d + 2) → f (c + 3) ≡ g (d + 3)
      → weighted w f c ≡ weighted w g d
  unfolding weighted
  weighted_values f g c d p q r s = rw (p, q, r, s)

  pub weighted_reads : (f g : ℕ → ℤ) (c : ℕ) → ((s : ℕ) → c ≤ s → s < c + 4 → f s ≡ g s) → weighted w f c ≡ weighted w g c
  weighted_reads f g c e =
      weighted_values f g c c (e c (omega arith) (omega arith)) (e (c + 1) (omega arith) (omega arith)) (e (c + 2) (omega arith) (omega arith)) (e (c + 3) (omega arith) (omega arith))

  -- so do the values at the m + 3 stored places, for the cell of a position
  pub stored_reads : (U m x : ℕ) → 0 < m → (f g : ℕ → ℤ) → ((s : ℕ) → s < m + 3 → f s ≡ g s) → weighted w f (cell U m x) ≡ weighted w g (cell U m x)
  stored_reads U m x h f g e = weighted_reads f g (cell U m x) (λ s l k. e s (omega (arith, cell_below U m x h)))

  pub weighted_sum : (f g : ℕ → ℤ) (c : ℕ) → weighted w (λ s. f s +ℤ g s) c ≡ weighted w f c +ℤ weighted w g c
  unfolding weighted products weighing stored
  weighted_sum f g c =
      let p : ℕ → Expr = λ k. var (4 + k) in
      let q : ℕ → Expr = λ k. var (8 + k) in
      solve (products (λ k. p k ⊞ q k)) (products p ⊞ products q) (weighing (stored f c (stored g c []))) tt

  pub weighted_scale : (z : ℤ) (f : ℕ → ℤ) (c : ℕ) → weighted w (λ s. z *ℤ f s) c ≡ z *ℤ weighted w f c
  unfolding weighted products weighing stored
  weighted_scale z f c =
      let p : ℕ → Expr = λ k. var (4 + k) in
      solve (products (λ k. var 8 ⊠ p k)) (var 8 ⊠ products p) (weighing (stored f c (z ∷ []))) tt

  -- a factor of all four weights
  pub weights_scale : (z : ℤ) (f : ℕ → ℤ) (c : ℕ) → weighted (λ k. z *ℤ w k) f c ≡ z *ℤ weighted w f c
  unfolding weighted products weighing stored
  weights_scale z f c =
      let p : ℕ → Expr = λ k. var (4 + k) in
      solve (var 8 ⊠ var 0 ⊠ p 0 ⊞ var 8 ⊠ var 1 ⊠ p 1 ⊞ var 8 ⊠ var 2 ⊠ p 2 ⊞ var 8 ⊠ var 3 ⊠ p 3) (var 8 ⊠ products p) (weighing (stored f c (z ∷ []))) tt

  pub weighted_constant : (z : ℤ) (c : ℕ) → weighted w (λ s. z) c ≡ (w 0 +ℤ w 1 +ℤ w 2 +ℤ w 3) *ℤ z
  unfolding weighted products weighing
  weighted_constant z c = solve (products (λ k. var 4)) ((var 0 ⊞ var 1 ⊞ var 2 ⊞ var 3) ⊠ var 4) (weighing (z ∷ [])) tt

  -- the sums of a row and of a column change places
  pub weighted_swap : (v : ℕ → ℤ) (f : ℕ → ℕ → ℤ) (c d : ℕ) → weighted w (λ s. weighted v (f s) d) c ≡ weighted v (λ t. weighted w (λ s. f s t) c) d
  unfolding weighted
  weighted_swap v f c d =
      weighted_sum (λ s. part 0 d s +ℤ part 1 (d + 1) s +ℤ part 2 (d + 2) s) (part 3 (d + 3)) c
      ∙ ap₂ ◌+ℤ◌
      (weighted_sum (λ s. part 0 d s +ℤ part 1 (d + 1) s) (part 2 (d + 2)) c
      ∙ ap₂ ◌+ℤ◌ (weighted_sum (part 0 d) (part 1 (d + 1)) c ∙ ap₂ ◌+ℤ◌ (one 0 d) (one 1 (d + 1))) (one 2 (d + 2)))
      (one 3 (d + 3))
    where
      part : ℕ → ℕ → ℕ → ℤ
      part k t s = v k *ℤ f s t

      one : (k t : ℕ) → weighted w (part k t) c ≡ v k *ℤ weighted w (λ s. f s t) c
      one k t = weighted_scale (v k) (λ s. f s t) c

  -- the sum of what each rounded value is off by, twice
  pub weighted_off : (z : ℤ) (f g : ℕ → ℤ) (c : ℕ) → weighted w (λ s. pos 2 *ℤ (z *ℤ f s -ℤ g s)) c ≡ pos 2 *ℤ (z *ℤ weighted w f c -ℤ weighted w g c)
  weighted_off z f g c =
      weighted_scale (pos 2) off c
      ∙ ap (λ v. pos 2 *ℤ v) (sym (+ℤ-neg_ℤ_cancel (weighted w off c) (weighted w g c)) ∙ ap (λ v. v -ℤ weighted w g c) together)
    where
      off : ℕ → ℤ
      off s = z *ℤ f s -ℤ g s

      together : weighted w off c +ℤ weighted w g c ≡ z *ℤ weighted w f c
      together = sym (weighted_sum off g c) ∙ ap (λ h. weighted w h c) (fun_ext λ s. -ℤ-+ℤ_cancel (z *ℤ f s) (g s)) ∙ weighted_scale z f c

  pub weighted_bound : (f : ℕ → ℤ) (c B : ℕ) → ((s : ℕ) → c ≤ s → s < c + 4 → nat_abs (f s) ≤ B) → nat_abs (weighted w f c) ≤ total_size w * B
  unfolding weighted
  weighted_bound f c B b =
      let P = w 0 *ℤ f c in
      let Q = w 1 *ℤ f (c + 1) in
      let R = w 2 *ℤ f (c + 2) in
      let S = w 3 *ℤ f (c + 3) in
      omega (arith, nat_abs_sum (P +ℤ Q +ℤ R) S, nat_abs_sum (P +ℤ Q) R, nat_abs_sum P Q, one 0 c (omega arith) (omega arith), one 1 (c + 1) (omega arith) (omega arith), one 2 (c + 2) (omega arith) (omega arith), one 3 (c + 3) (omega arith) (omega arith))
    where
      one : (k s : ℕ) → c ≤ s → s < c + 4 → nat_abs (w k *ℤ f s) ≤ nat_abs (w k) * B
      one k s h l = rw (nat_abs_product (w k) (f s)) (mul-le-mul_left (nat_abs (w k)) (b s h l))

  -- where no weight is negative, values of at most B weigh at most as much as B
  pub weighted_most : ((k : ℕ) → k < 4 → pos 0 ≤ℤ w k) → (f : ℕ → ℤ) (c : ℕ) (B : ℤ) → ((s : ℕ) → c ≤ s → s < c + 4 → f s ≤ℤ B)
      → weighted w f c ≤ℤ ((w 0 +ℤ w 1 +ℤ w 2 +ℤ w 3) *ℤ B)
  unfolding weighted
  weighted_most h f c B b =
      rw (← weighted_constant B c)
      (≤ℤ_sum (≤ℤ_sum (≤ℤ_sum (one 0 c (omega arith)) (one 1 (c + 1) (omega arith))) (one 2 (c + 2) (omega arith))) (one 3 (c + 3) (omega arith)))
    where
      one : (k s : ℕ) → (k < 4) × (s ≡ c + k) → (w k *ℤ f s) ≤ℤ (w k *ℤ B)
      one k s i = ≤ℤ_product (w k) (h k i.0) (b s (omega arith) (omega arith))

-- ---- the sum along an axis

-- no numerator is negative
pub numerator_non_neg : (U a : ℕ) → a ≤ U → (k : ℕ) → pos 0 ≤ℤ numerator (pos U) (pos a) k
numerator_non_neg U a h k = rw (numerator_weights a (U - a) (add-sub_of_le h) k) (le_z_yes (le→leb 0 (weights a (U - a) k) zero-le))

-- so their sizes add up to 6U³
pub numerators_size : (U a : ℕ) → a ≤ U → total_size (numerator (pos U) (pos a)) ≡ denominator U
numerators_size U a h =
    let e : a + (U - a) ≡ U = add-sub_of_le h in
    let w = numerator_weights a (U - a) e in
    rw (w 0, w 1, w 2, w 3) (weights_sum a (U - a) e)

module _ (U m x : ℕ) where
  abbrev at : ℕ → ℤ
  at = numerator (pos U) (pos (offset U m x))

  pub along_sum : (f g : ℕ → ℤ) → along U m x (λ s. f s +ℤ g s) ≡ along U m x f +ℤ along U m x g
  unfolding along
  along_sum f g = weighted_sum at f g (cell U m x)

  pub along_scale : (c : ℤ) (f : ℕ → ℤ) → along U m x (λ s. c *ℤ f s) ≡ c *ℤ along U m x f
  unfolding along
  along_scale c f = weighted_scale at c f (cell U m x)

  pub along_off : (c : ℤ) (f g : ℕ → ℤ) → along U m x (λ s. pos 2 *ℤ (c *ℤ f s -ℤ g s)) ≡ pos 2 *ℤ (c *ℤ along U m x f -ℤ along U m x g)
  unfolding along
  along_off c f g = weighted_off at c f g (cell U m x)

  -- the partition of unity, as the sum along an axis has it
  pub along_constant : (c : ℤ) → along U m x (λ s. c) ≡ pos (denominator U) *ℤ c
  unfolding along denominator cube
  along_constant c = weighted_constant at c (cell U m x) ∙ ap (λ z. z *ℤ c) (numerators_sum (pos U) (pos (offset U m x)))

  -- the values that stand at the m + 3 stored places decide the sum
  pub along_reads : 0 < m → (f g : ℕ → ℤ) → ((s : ℕ) → s < m + 3 → f s ≡ g s) → along U m x f ≡ along U m x g
  unfolding along
  along_reads h f g e = stored_reads at U m x h f g e

  pub along_bound : 0 < U → 0 < m → x ≤ U * m → (f : ℕ → ℤ) (B : ℕ) → ((s : ℕ) → s < m + 3 → nat_abs (f s) ≤ B)
      → nat_abs (along U m x f) ≤ denominator U * B
  unfolding along
  along_bound u h i f B b =
      rw (← numerators_size U (offset U m x) (offset_within U m x u h i)) (weighted_bound at f (cell U m x) B (λ s l k. b s (omega (arith, cell_below U m x h))))
