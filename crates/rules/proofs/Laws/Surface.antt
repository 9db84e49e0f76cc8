-- Laws of the surface and the height in two axes, for any U: the surface is linear, both read the stored values alone and are bounded by
-- them, and the height is within 1 of the surface. With them the laws of a lattice's storage, and the size and the error of refined values.
use Rattle.std.specs.Prelude.{◌≡◌, List, [], ◌∷◌, ℕ, ◌+◌, ◌*◌, ◌/◌, ◌%◌, ◌≤◌, ◌<◌, ℤ, pos, nat_abs, ◌+ℤ◌, ◌-ℤ◌, ◌*ℤ◌, ◌≤ℤ◌, length, get_or, drop}
use Rattle.std.proofs.Common.{ap, ap₂, ◌∙◌, mul-pos, mul-le-mul_left, mul-le-mul_right, mul_assoc, mul_comm, mod-eq_of_lt, mod-lt, div-lt_iff_lt-mul, arith}
use Rattle.std.proofs.Math.Path.{fun_ext}
use Rattle.std.proofs.Math.Nat.{mul-add-div_right, mul-add-mod_self_right, div-eq_of_lt}
use Rattle.std.proofs.Math.ListN.{get_or-append}
use Rattle.algebra.specs.Solver.{var, con, ◌⊞◌, ◌⊠◌, ◌⊟◌, solve}
use Rattle.algebra.specs.Size.{nat_abs_sum, nat_abs_product}
use Rattle.algebra.specs.Table.{over, length_tabulate, get_d_tabulate}
use Rattle.rules.specs.Rounding.{near}
use Rattle.rules.specs.Grid.{Lattice, limit, controls, control, store}
use Rattle.rules.specs.Surface.{denominator, cell, along, surface, height}
use Rattle.rules.specs.Refinement.{finer2, refined}
use Rattle.rules.proofs.Laws.Rounding.{near_distance, near_most, near_within}
use Rattle.rules.proofs.Laws.Basis.{along_sum, along_scale, along_constant, along_off, along_reads, along_bound}
use Rattle.rules.proofs.Laws.Most.{along_most}
use Rattle.rules.proofs.Laws.TwoScale.{finer2_size}
use Rattle.rules.specs.Laws.Checks.{AllInRange}
use Rattle.rules.specs.Laws.Surface.{Bounded, Same, Inside, full}

pub full_double : (U : ℕ) → full (2 * U) ≡ 64 * full U
unfolding full denominator
full_double U = omega arith

-- ---- the surface is linear

pub surface_sum : (U m n : ℕ) (f g : Lattice) (x y : ℕ) → surface U m n (λ s t. f s t +ℤ g s t) x y ≡ surface U m n f x y +ℤ surface U m n g x y
unfolding surface
surface_sum U m n f g x y =
    ap (along U n y) (fun_ext λ t. along_sum U m x (λ s. f s t) (λ s. g s t))
    ∙ along_sum U n y (λ t. along U m x (λ s. f s t)) (λ t. along U m x (λ s. g s t))

pub surface_scale : (U m n : ℕ) (c : ℤ) (f : Lattice) (x y : ℕ) → surface U m n (λ s t. c *ℤ f s t) x y ≡ c *ℤ surface U m n f x y
unfolding surface
surface_scale U m n c f x y =
    ap (along U n y) (fun_ext λ t. along_scale U m x c (λ s. f s t)) ∙ along_scale U n y c (λ t. along U m x (λ s. f s t))

-- a lattice of one value is as high as that, everywhere
pub surface_constant : (U m n : ℕ) (c : ℤ) (x y : ℕ) → surface U m n (λ s t. c) x y ≡ pos (full U) *ℤ c
unfolding surface full
surface_constant U m n c x y =
    let F = pos (denominator U) in
    ap (along U n y) (fun_ext λ t. along_constant U m x c) ∙ along_constant U n y (F *ℤ c) ∙ solve (var 0 ⊠ (var 0 ⊠ var 1)) (var 0 ⊠ var 0 ⊠ var 1) (F ∷ c ∷ []) tt

-- ---- what surface and height read

-- r is what becomes of each row's sum: near for the height, nothing for the surface
rows_read : (U m n : ℕ) → 0 < m → 0 < n → (f g : Lattice) → Same m n f g → (r : ℤ → ℤ) (x y : ℕ)
    → along U n y (λ t. r (along U m x (λ s. f s t))) ≡ along U n y (λ t. r (along U m x (λ s. g s t)))
rows_read U m n h k f g e r x y =
    along_reads U n y k _ _ (λ t l. ap r (along_reads U m x h (λ s. f s t) (λ s. g s t) (λ s i. e.same s t i l)))

pub surface_reads : (U m n : ℕ) → 0 < m → 0 < n → (f g : Lattice) → Same m n f g → (x y : ℕ) → surface U m n f x y ≡ surface U m n g x y
unfolding surface
surface_reads U m n h k f g e x y = rows_read U m n h k f g e (λ v. v) x y

pub height_reads : (U m n : ℕ) → 0 < m → 0 < n → (f g : Lattice) → Same m n f g → (x y : ℕ) → height U m n f x y ≡ height U m n g x y
unfolding height
height_reads U m n h k f g e x y = ap (λ v. near v (denominator U)) (rows_read U m n h k f g e (λ v. near v (denominator U)) x y)

-- ---- how large they are

pub denominator_positive : (U : ℕ) → 0 < U → 0 < denominator U
unfolding denominator
denominator_positive U h = omega (arith, mul-pos (mul-pos h h) h)

-- the sum of one row
row_bound : (U m n x y : ℕ) → Inside U m n x y → (f : Lattice) (B : ℕ) → Bounded m n f B
    → (t : ℕ) → t < n + 3 → nat_abs (along U m x (λ s. f s t)) ≤ denominator U * B
row_bound U m n x y i f B b t l = along_bound U m x i.unit i.across i.x_inside (λ s. f s t) B (λ s k. b.size s t k l)

pub surface_bound : (U m n x y : ℕ) → Inside U m n x y → (f : Lattice) (B : ℕ) → Bounded m n f B → nat_abs (surface U m n f x y) ≤ full U * B
unfolding surface full
surface_bound U m n x y i f B b =
    let F = denominator U in
    rw (mul_assoc F F B) (along_bound U n y i.unit i.up i.y_inside (λ t. along U m x (λ s. f s t)) (F * B) (row_bound U m n x y i f B b))

pub height_within : (U m n x y : ℕ) → Inside U m n x y → (f : Lattice) (B : ℕ) → Bounded m n f B → nat_abs (height U m n f x y) ≤ B
unfolding height
height_within U m n x y i f B b =
    let F = denominator U in
    let h : 0 < F = denominator_positive U i.unit in
    near_within _ F B h
    (along_bound U n y i.unit i.up i.y_inside (λ t. near (along U m x (λ s. f s t)) F) B
    (λ t l. near_within (along U m x (λ s. f s t)) F B h (row_bound U m n x y i f B b t l)))

-- where the sixteen control values of a cell are at most B, so is every height in the cell, however an exact half is treated
pub height_most : (U m n x y : ℕ) → Inside U m n x y → (f : Lattice) (B : ℤ)
    → ((s t : ℕ) → cell U m x ≤ s → s < cell U m x + 4 → cell U n y ≤ t → t < cell U n y + 4 → f s t ≤ℤ B) → height U m n f x y ≤ℤ B
unfolding height
height_most U m n x y i f B b =
    let F = denominator U in
    let h : 0 < F = denominator_positive U i.unit in
    near_most _ B F h
    (along_most U n y i.unit i.up i.y_inside (λ t. near (along U m x (λ s. f s t)) F) B
    (λ t l k. near_most (along U m x (λ s. f s t)) B F h (along_most U m x i.unit i.across i.x_inside (λ s. f s t) B (λ s p q. b s t p q l k))))

-- ---- how far the height is from the surface

pub height_distance : (U m n x y : ℕ) → Inside U m n x y → (f : Lattice)
    → nat_abs (pos 2 *ℤ (pos (full U) *ℤ height U m n f x y -ℤ surface U m n f x y)) ≤ 2 * full U
unfolding height surface full
height_distance U m n x y i f =
    let h : 0 < F = denominator_positive U i.unit in
    let a = along U n y rounded in
    let last = pos 2 *ℤ (pos F *ℤ near a F -ℤ a) in
    let rows = along U n y (λ t. pos 2 *ℤ (pos F *ℤ rounded t -ℤ row t)) in
    let last-size : nat_abs (pos F *ℤ last) ≤ F * F = rw (nat_abs_product (pos F) last) (mul-le-mul_left F (near_distance a F h)) in
    let rows-size : nat_abs rows ≤ F * F = along_bound U n y i.unit i.up i.y_inside _ F (λ t l. near_distance (row t) F h) in
    rw (parts (pos F) (near a F) a (along U n y row), ← along_off U n y (pos F) rounded row) (omega (arith, nat_abs_sum (pos F *ℤ last) rows))
  where
    F : ℕ
    F = denominator U

    row : ℕ → ℤ
    row t = along U m x (λ s. f s t)

    rounded : ℕ → ℤ
    rounded t = near (row t) F

    parts : (F h a s : ℤ) → pos 2 *ℤ (F *ℤ F *ℤ h -ℤ s) ≡ F *ℤ (pos 2 *ℤ (F *ℤ h -ℤ a)) +ℤ pos 2 *ℤ (F *ℤ a -ℤ s)
    parts F h a s =
        let d = var 0 in
        let two = con (pos 2) in
        solve (two ⊠ (d ⊠ d ⊠ var 1 ⊟ var 3)) (d ⊠ (two ⊠ (d ⊠ var 1 ⊟ var 2)) ⊞ two ⊠ (d ⊠ var 2 ⊟ var 3)) (F ∷ h ∷ a ∷ s ∷ []) tt

-- ---- storage

pub length_store : (m n : ℕ) (f : Lattice) → length (store m n f) ≡ controls m n
unfolding store
length_store m n f = length_tabulate (controls m n) _

-- the place of a control value among those stored
pub place_below : (m n s t : ℕ) → s < m + 3 → t < n + 3 → t * (m + 3) + s < controls m n
unfolding controls
place_below m n s t h k = omega (arith, mul-le-mul_right (m + 3) k)

-- what a lattice has at the column and the row of that place
pub at_place : (m : ℕ) (f : Lattice) (s t : ℕ) → s < m + 3 → f ((t * (m + 3) + s) % (m + 3)) ((t * (m + 3) + s) / (m + 3)) ≡ f s t
at_place m f s t h =
    ap₂ f (mul-add-mod_self_right t (m + 3) s ∙ mod-eq_of_lt h) (mul-add-div_right {m = m + 3} (omega arith) t s ∙ ap (λ (q : ℕ). t + q) (div-eq_of_lt h) ∙ omega arith)

pub control_store : (m n : ℕ) (f : Lattice) → Same m n (control m (store m n f)) f
unfolding control store
control_store m n f = record {
  same = λ s t h k.
      get_d_tabulate (controls m n) _ (t * (m + 3) + s) (pos 0) (place_below m n s t h k) ∙ at_place m f s t h;
}

pub control_over : (m n : ℕ) (stored rest : List ℤ) → length stored ≡ controls m n → Same m n (control m (over stored rest)) (control m stored)
unfolding control over
control_over m n stored rest e = record {
  same = λ s t h k.
      get_or-append stored (drop (length stored) rest) (pos 0) (t * (m + 3) + s) (rw e (place_below m n s t h k));
}

-- the control values of the first rows are in range where what is stored of these rows is
pub control_size : (m rows s t : ℕ) (stored : List ℤ) → AllInRange (rows * (m + 3)) stored → s < m + 3 → t < rows → nat_abs (control m stored s t) ≤ limit
unfolding control
control_size m rows s t stored a h k = a (t * (m + 3) + s) (omega (arith, mul-le-mul_right (m + 3) k))

pub control_within : (m n : ℕ) (stored : List ℤ) → AllInRange (controls m n) stored → Bounded m n (control m stored) limit
unfolding controls
control_within m n stored a = record { size = λ s t. control_size m (n + 3) s t stored (rw (mul_comm (n + 3) (m + 3)) a) }

-- what is stored of a lattice is bounded where the lattice is
pub store_within : (m n : ℕ) (f : Lattice) (B : ℕ) → Bounded m n f B → (i : ℕ) → i < controls m n → nat_abs (get_or (store m n f) i (pos 0)) ≤ B
unfolding store controls
store_within m n f B b i h =
    rw (get_d_tabulate (controls m n) (λ q. f (q % (m + 3)) (q / (m + 3))) i (pos 0) h)
    (b.size (i % (m + 3)) (i / (m + 3)) (mod-lt i (omega arith)) ((div-lt_iff_lt-mul {k = m + 3} (omega arith)).1 (omega arith)))

-- ---- refined values

pub refined_within : (m n : ℕ) (f : Lattice) (B : ℕ) → Bounded m n f B → Bounded (2 * m) (2 * n) (refined f) B
unfolding refined
refined_within m n f B b = record { size = λ s t h k. near_within (finer2 f s t) 64 B (omega arith) (finer2_size m n f B b.size s t h k) }

pub refined_distance : (f : Lattice) (s t : ℕ) → nat_abs (pos 2 *ℤ (pos 64 *ℤ refined f s t -ℤ finer2 f s t)) ≤ 64
unfolding refined
refined_distance f s t = near_distance (finer2 f s t) 64 (omega arith)
