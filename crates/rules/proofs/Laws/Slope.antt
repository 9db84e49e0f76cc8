-- Laws of the slope, for any U: its numerators over 2U³ are the derivatives of those over 6U³, add up to 0 and are at most 3U² in size together; the exact slope is
-- the derivative of the exact surface; a slope is within 750/U + 1/2 nanometres of the exact one, from near's distance alone, reads the stored values alone, and is 0
-- on level ground.
use Rattle.std.specs.Prelude.{◌≡◌, refl, List, [], ◌∷◌, ℕ, zero, suc, ◌+◌, ◌-◌, ◌*◌, ◌≤◌, ◌<◌, ℤ, pos, nat_abs, neg_ℤ, ◌+ℤ◌, ◌-ℤ◌, ◌*ℤ◌}
use Rattle.std.proofs.Common.{sym, ap, ap₂, ◌∙◌, le_trans, add-sub_of_le, mul-le-mul_left, mul-le-mul_right, mul-pos, arith}
use Rattle.std.proofs.Math.Path.{fun_ext}
use Rattle.algebra.specs.Solver.{Expr, var, con, ◌⊞◌, ◌⊠◌, ◌⊟◌, neg, solve}
use Rattle.algebra.specs.Size.{nat_abs_sum, nat_abs_product, nat_abs_neg, twice_product}
use Rattle.rules.specs.Rounding.{near}
use Rattle.rules.specs.Grid.{Lattice}
use Rattle.rules.specs.Surface.{square, cube, numerator, denominator, cell, offset, weighted, along, surface}
use Rattle.rules.specs.Slope.{slope_numerator, slope_denominator, slope_along, exact_slope_x, slope_x, exact_slope_y, slope_y, slope_full, SlopeClose}
use Rattle.rules.proofs.Laws.Rounding.{near_distance, near_exact}
use Rattle.rules.specs.Laws.Basis.{quoted, total_size}
use Rattle.rules.proofs.Laws.Basis.{stored_reads, weighted_constant, weighted_swap, weighted_off, weighted_bound, cell_offset, offset_within, along_sum, along_scale, along_reads}
use Rattle.rules.specs.Laws.Surface.{Same, Inside}
use Rattle.rules.proofs.Laws.Surface.{denominator_positive}
use Rattle.rules.specs.Laws.Slope.{slope_quoted, bend, bend_along}

-- three times a slope numerator is the derivative of the numerator: 6U³ is three times 2U³
pub numerator_slope : (U a h : ℤ) (k : ℕ) → numerator U (a +ℤ h) k ≡ numerator U a k +ℤ pos 3 *ℤ h *ℤ slope_numerator U a k +ℤ h *ℤ h *ℤ bend U a h k
unfolding numerator slope_numerator square cube bend quoted slope_quoted
numerator_slope U a h k = go k
  where
    u : Expr
    u = var 0

    x : Expr
    x = var 1

    d : Expr
    d = var 2

    ρ : List ℤ
    ρ = U ∷ a ∷ h ∷ []

    step : ℕ → Expr → Expr
    step k b = quoted u x k ⊞ con (pos 3) ⊠ d ⊠ slope_quoted u x k ⊞ d ⊠ d ⊠ b

    go : (k : ℕ) → numerator U (a +ℤ h) k ≡ numerator U a k +ℤ pos 3 *ℤ h *ℤ slope_numerator U a k +ℤ h *ℤ h *ℤ bend U a h k
    go zero = solve (quoted u (x ⊞ d) 0) (step 0 (con (pos 3) ⊠ (u ⊟ x) ⊟ d)) ρ tt
    go (suc zero) = solve (quoted u (x ⊞ d) 1) (step 1 (con (pos 9) ⊠ x ⊞ con (pos 3) ⊠ d ⊟ con (pos 6) ⊠ u)) ρ tt
    go (suc (suc zero)) = solve (quoted u (x ⊞ d) 2) (step 2 (con (pos 3) ⊠ u ⊟ con (pos 9) ⊠ x ⊟ con (pos 3) ⊠ d)) ρ tt
    go (suc (suc (suc k))) = solve (quoted u (x ⊞ d) 3) (step 3 (con (pos 3) ⊠ x ⊞ d)) ρ tt

pub slopes_sum : (U a : ℤ) → slope_numerator U a 0 +ℤ slope_numerator U a 1 +ℤ slope_numerator U a 2 +ℤ slope_numerator U a 3 ≡ pos 0
unfolding slope_numerator square slope_quoted
slopes_sum U a =
    let q = slope_quoted (var 0) (var 1) in
    solve (q 0 ⊞ q 1 ⊞ q 2 ⊞ q 3) (con (pos 0)) (U ∷ a ∷ []) tt

-- at the distances a and b from the two ends of a cell the sizes are b², a² + 4ab, 4ab + b² and a²
slopes_size_parts : (a b : ℕ) {U : ℕ} → a + b ≡ U → total_size (slope_numerator (pos U) (pos a)) ≡ b * b + (a * a + 4 * (a * b)) + (4 * (a * b) + b * b) + a * a
unfolding slope_numerator square slope_quoted
slopes_size_parts a b e = rw (← e, s0, s1, s2, nat_abs_neg (pos (b * b)), nat_abs_neg (pos (a * a + 4 * (a * b)))) refl
  where
    q : ℕ → Expr
    q = slope_quoted (var 0 ⊞ var 1) (var 0)

    ρ : List ℤ
    ρ = pos a ∷ pos b ∷ []

    s0 : slope_numerator (pos (a + b)) (pos a) 0 ≡ neg_ℤ (pos (b * b))
    s0 = solve (q 0) (neg (var 1 ⊠ var 1)) ρ tt

    s1 : slope_numerator (pos (a + b)) (pos a) 1 ≡ neg_ℤ (pos (a * a + 4 * (a * b)))
    s1 = solve (q 1) (neg (var 0 ⊠ var 0 ⊞ con (pos 4) ⊠ (var 0 ⊠ var 1))) ρ tt

    s2 : slope_numerator (pos (a + b)) (pos a) 2 ≡ pos (4 * (a * b) + b * b)
    s2 = solve (q 2) (con (pos 4) ⊠ (var 0 ⊠ var 1) ⊞ var 1 ⊠ var 1) ρ tt

pub slopes_size : (U a : ℕ) → a ≤ U → total_size (slope_numerator (pos U) (pos a)) ≤ 3 * (U * U)
slopes_size U a h =
    let e : a + (U - a) ≡ U = add-sub_of_le h in
    rw (slopes_size_parts a (U - a) e) (bound a (U - a) e)
  where
    bound : (a b : ℕ) → a + b ≡ U → b * b + (a * a + 4 * (a * b)) + (4 * (a * b) + b * b) + a * a ≤ 3 * (U * U)
    bound a b e = rw (← e) (omega (arith, twice_product a b))

-- ---- the exact slope is the derivative of the exact surface

-- a step of h from the offset a, in the sum of four values
weighted_slope : (U a h : ℤ) (f : ℕ → ℤ) (c : ℕ)
    → weighted (numerator U (a +ℤ h)) f c ≡ weighted (numerator U a) f c +ℤ pos 3 *ℤ h *ℤ weighted (slope_numerator U a) f c +ℤ h *ℤ h *ℤ weighted (bend U a h) f c
unfolding weighted
weighted_slope U a h f c =
    rw (numerator_slope U a h 0, numerator_slope U a h 1, numerator_slope U a h 2, numerator_slope U a h 3)
    (solve (stepped 0 ⊞ stepped 1 ⊞ stepped 2 ⊞ stepped 3) (products 1 ⊞ con (pos 3) ⊠ d ⊠ products 5 ⊞ d ⊠ d ⊠ products 9)
    (h ∷ N 0 ∷ N 1 ∷ N 2 ∷ N 3 ∷ S 0 ∷ S 1 ∷ S 2 ∷ S 3 ∷ B 0 ∷ B 1 ∷ B 2 ∷ B 3 ∷ f c ∷ f (c + 1) ∷ f (c + 2) ∷ f (c + 3) ∷ []) tt)
  where
    N : ℕ → ℤ
    N = numerator U a

    S : ℕ → ℤ
    S = slope_numerator U a

    B : ℕ → ℤ
    B = bend U a h

    d : Expr
    d = var 0

    stepped : ℕ → Expr
    stepped k = (var (1 + k) ⊞ con (pos 3) ⊠ d ⊠ var (5 + k) ⊞ d ⊠ d ⊠ var (9 + k)) ⊠ var (13 + k)

    -- the four weights from variable k on, with the values
    products : ℕ → Expr
    products k = var k ⊠ var 13 ⊞ var (k + 1) ⊠ var 14 ⊞ var (k + 2) ⊠ var 15 ⊞ var (k + 3) ⊠ var 16

-- x and x + h in one cell
along_slope : (U m x h : ℕ) → cell U m (x + h) ≡ cell U m x → (f : ℕ → ℤ)
    → along U m (x + h) f ≡ along U m x f +ℤ pos 3 *ℤ pos h *ℤ slope_along U m x f +ℤ pos h *ℤ pos h *ℤ bend_along U m x h f
unfolding along slope_along bend_along
along_slope U m x h e f =
    let a = offset U m x in
    let further : offset U m (x + h) ≡ a + h = omega (arith, cell_offset U m x, rw e at (cell_offset U m (x + h))) in
    rw (e, further) (weighted_slope (pos U) (pos a) (pos h) f (cell U m x))

-- the sum of the rows' slopes is the slope of the columns' sums
slope_swap : (U m n : ℕ) (f : Lattice) (x y : ℕ) → along U n y (λ t. slope_along U m x (λ s. f s t)) ≡ slope_along U m x (λ s. along U n y (λ t. f s t))
unfolding along slope_along
slope_swap U m n f x y =
    sym (weighted_swap (slope_numerator (pos U) (pos (offset U m x))) (numerator (pos U) (pos (offset U n y))) f (cell U m x) (cell U n y))

-- so the exact slope along x, over 12U⁶, is the derivative of the exact surface, over 36U⁶, in each cell; likewise along y
pub surface_slope_x : (U m n : ℕ) (f : Lattice) (x h y : ℕ) → cell U m (x + h) ≡ cell U m x
    → surface U m n f (x + h) y ≡ surface U m n f x y +ℤ pos 3 *ℤ pos h *ℤ exact_slope_x U m n f x y +ℤ pos h *ℤ pos h *ℤ along U n y (λ t. bend_along U m x h (λ s. f s t))
unfolding surface exact_slope_x
surface_slope_x U m n f x h y e =
    ap (along U n y) (fun_ext λ t. along_slope U m x h e (λ s. f s t))
    ∙ along_sum U n y (λ t. A t +ℤ pos 3 *ℤ pos h *ℤ S t) (λ t. pos h *ℤ pos h *ℤ B t)
    ∙ ap₂ ◌+ℤ◌
    (along_sum U n y A (λ t. pos 3 *ℤ pos h *ℤ S t) ∙ ap (λ z. along U n y A +ℤ z) (along_scale U n y (pos 3 *ℤ pos h) S ∙ ap (λ z. pos 3 *ℤ pos h *ℤ z) (slope_swap U m n f x y)))
    (along_scale U n y (pos h *ℤ pos h) B)
  where
    A : ℕ → ℤ
    A t = along U m x (λ s. f s t)

    S : ℕ → ℤ
    S t = slope_along U m x (λ s. f s t)

    B : ℕ → ℤ
    B t = bend_along U m x h (λ s. f s t)

pub surface_slope_y : (U m n : ℕ) (f : Lattice) (x y h : ℕ) → cell U n (y + h) ≡ cell U n y
    → surface U m n f x (y + h) ≡ surface U m n f x y +ℤ pos 3 *ℤ pos h *ℤ exact_slope_y U m n f x y +ℤ pos h *ℤ pos h *ℤ bend_along U n y h (λ t. along U m x (λ s. f s t))
unfolding surface exact_slope_y exact_slope_x
surface_slope_y U m n f x y h e = along_slope U n y h e (λ t. along U m x (λ s. f s t))

-- ---- how far a slope is from the exact one

pub slope_denominator_positive : (U : ℕ) → 0 < U → 0 < slope_denominator U
unfolding slope_denominator
slope_denominator_positive U h = omega (arith, mul-pos (mul-pos h h) h)

full_is : (U : ℕ) → denominator U * slope_denominator U ≡ slope_full U
unfolding denominator slope_denominator slope_full
full_is U = omega arith

bound_is : (U : ℕ) → 1_000 * (3 * (U * U) * denominator U) ≡ 18_000 * (U * U * U * U * U)
unfolding denominator
bound_is U = omega arith

pub slope_x_distance : (U m n x y : ℕ) → Inside U m n x y → (f : Lattice) → SlopeClose U (slope_x U m n f x y) (exact_slope_x U m n f x y)
unfolding slope_x exact_slope_x slope_along SlopeClose
slope_x_distance U m n x y i f =
    let T = weighted w rounded c in
    let z = near (pos 1_000 *ℤ T) D in
    let S = weighted w column c in
    let last = pos 2 *ℤ (pos D *ℤ z -ℤ pos 1_000 *ℤ T) in
    let columns = pos 2 *ℤ (pos F *ℤ T -ℤ S) in
    let last-size : nat_abs (pos F *ℤ last) ≤ F * D = rw (nat_abs_product (pos F) last) (mul-le-mul_left F (near_distance (pos 1_000 *ℤ T) D (slope_denominator_positive U i.unit))) in
    let columns-size : nat_abs columns ≤ 3 * (U * U) * F = rw (← weighted_off w (pos F) rounded column c) (le_trans (weighted_bound w (λ s. pos 2 *ℤ (pos F *ℤ rounded s -ℤ column s)) c F off) (mul-le-mul_right F weight)) in
    let thousand : nat_abs (pos 1_000 *ℤ columns) ≤ 1_000 * (3 * (U * U) * F) = rw (nat_abs_product (pos 1_000) columns) (mul-le-mul_left 1_000 columns-size) in
    let both : nat_abs (pos 2 *ℤ (pos (F * D) *ℤ z -ℤ pos 1_000 *ℤ S)) ≤ F * D + 1_000 * (3 * (U * U) * F) = rw (parts (pos F) (pos D) z T S) (omega (arith, nat_abs_sum (pos F *ℤ last) (pos 1_000 *ℤ columns))) in
    rw (full_is U, bound_is U) at both
  where
    c : ℕ
    c = cell U m x

    w : ℕ → ℤ
    w = slope_numerator (pos U) (pos (offset U m x))

    F : ℕ
    F = denominator U

    D : ℕ
    D = slope_denominator U

    column : ℕ → ℤ
    column s = along U n y (λ t. f s t)

    rounded : ℕ → ℤ
    rounded s = near (column s) F

    off : (s : ℕ) → c ≤ s → s < c + 4 → nat_abs (pos 2 *ℤ (pos F *ℤ rounded s -ℤ column s)) ≤ F
    off s h k = near_distance (column s) F (denominator_positive U i.unit)

    weight : total_size w ≤ 3 * (U * U)
    weight = slopes_size U (offset U m x) (offset_within U m x i.unit i.across i.x_inside)

    parts : (F D z T S : ℤ) → pos 2 *ℤ (F *ℤ D *ℤ z -ℤ pos 1_000 *ℤ S) ≡ F *ℤ (pos 2 *ℤ (D *ℤ z -ℤ pos 1_000 *ℤ T)) +ℤ pos 1_000 *ℤ (pos 2 *ℤ (F *ℤ T -ℤ S))
    parts F D z T S =
        let two = con (pos 2) in
        let k = con (pos 1_000) in
        solve (two ⊠ (var 0 ⊠ var 1 ⊠ var 2 ⊟ k ⊠ var 4)) (var 0 ⊠ (two ⊠ (var 1 ⊠ var 2 ⊟ k ⊠ var 3)) ⊞ k ⊠ (two ⊠ (var 0 ⊠ var 3 ⊟ var 4))) (F ∷ D ∷ z ∷ T ∷ S ∷ []) tt

pub slope_y_distance : (U m n x y : ℕ) → Inside U m n x y → (f : Lattice) → SlopeClose U (slope_y U m n f x y) (exact_slope_y U m n f x y)
unfolding slope_y exact_slope_y
slope_y_distance U m n x y i f = slope_x_distance U n m y x turned (λ t s. f s t)
  where
    turned : Inside U n m y x
    turned = record { unit = i.unit; across = i.up; up = i.across; x_inside = i.y_inside; y_inside = i.x_inside }

-- ---- what slopes read

slope_along_reads : (U m x : ℕ) → 0 < m → (f g : ℕ → ℤ) → ((s : ℕ) → s < m + 3 → f s ≡ g s) → slope_along U m x f ≡ slope_along U m x g
unfolding slope_along
slope_along_reads U m x h f g e = stored_reads _ U m x h f g e

pub slope_x_reads : (U m n : ℕ) → 0 < m → 0 < n → (f g : Lattice) → Same m n f g → (x y : ℕ) → slope_x U m n f x y ≡ slope_x U m n g x y
unfolding slope_x
slope_x_reads U m n h k f g e x y =
    ap (λ v. near (pos 1_000 *ℤ v) (slope_denominator U))
    (slope_along_reads U m x h _ _ (λ s l. ap (λ v. near v (denominator U)) (along_reads U n y k (λ t. f s t) (λ t. g s t) (λ t i. e.same s t l i))))

pub slope_y_reads : (U m n : ℕ) → 0 < m → 0 < n → (f g : Lattice) → Same m n f g → (x y : ℕ) → slope_y U m n f x y ≡ slope_y U m n g x y
unfolding slope_y
slope_y_reads U m n h k f g e x y = slope_x_reads U n m k h (λ t s. f s t) (λ t s. g s t) (record { same = λ t s i l. e.same s t l i }) y x

-- ---- level ground

slope_along_constant : (U m x : ℕ) (c : ℤ) → slope_along U m x (λ s. c) ≡ pos 0
unfolding slope_along
slope_along_constant U m x c =
    let a = pos (offset U m x) in
    weighted_constant (slope_numerator (pos U) a) c (cell U m x)
    ∙ ap (λ z. z *ℤ c) (slopes_sum (pos U) a)
    ∙ solve (con (pos 0) ⊠ var 0) (con (pos 0)) (c ∷ []) tt

constant_slope_x : (U m n : ℕ) (c : ℤ) (x y : ℕ) → 0 < U → slope_x U m n (λ s t. c) x y ≡ pos 0
unfolding slope_x
constant_slope_x U m n c x y h =
    let D = slope_denominator U in
    ap (λ v. near (pos 1_000 *ℤ v) D) (slope_along_constant U m x (near (along U n y (λ t. c)) (denominator U)))
    ∙ ap (λ v. near v D) (solve (con (pos 1_000) ⊠ con (pos 0)) (var 0 ⊠ con (pos 0)) (pos D ∷ []) tt)
    ∙ near_exact (pos 0) D (slope_denominator_positive U h)

-- where all control values are the same, both slopes are 0
module _ (U m n : ℕ) (x y : ℕ) (i : Inside U m n x y) (f : Lattice) (c : ℤ) (level : Same m n f (λ s t. c)) where
  pub level_slope_x : slope_x U m n f x y ≡ pos 0
  level_slope_x = slope_x_reads U m n i.across i.up f (λ s t. c) level x y ∙ constant_slope_x U m n c x y i.unit

  pub level_slope_y : slope_y U m n f x y ≡ pos 0
  unfolding slope_y
  level_slope_y = slope_y_reads U m n i.across i.up f (λ s t. c) level x y ∙ constant_slope_x U n m c y x i.unit
