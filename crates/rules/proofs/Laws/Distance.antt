-- Demand 3 is true of every fit that the rules accept.
use Rattle.std.specs.Prelude.{◌≡◌, List, [], ◌∷◌, ℕ, suc, ◌+◌, ◌-◌, ◌*◌, ◌^◌, ◌≤◌, leb, ◌+ℤ◌, ◌-ℤ◌, ◌*ℤ◌, length, drop}
use Rattle.std.proofs.Math.Path.{refl}
use Rattle.std.proofs.Common.{sym, ap, subst, ◌∙◌, pow-suc, sub-add_cancel, arith, le→leb, pow-add}
use Rattle.std.proofs.Math.Option.{none}
use Rattle.std.proofs.Math.Nat.{mul-le-mul_left, one-le-pow, pow-zero}
use Rattle.std.proofs.Math.IntN.{ℤ, pos, nat_abs}
use Rattle.std.proofs.Math.ListN.{length-append}
use Rattle.std.proofs.Math.Facts.{yes_and}
use Rattle.algebra.specs.Solver.{var, con, ◌⊞◌, ◌⊟◌, ◌⊠◌, solve}
use Rattle.algebra.specs.Size.{nat_abs_sum, nat_abs_product}
use Rattle.algebra.specs.Table.{over, get_d_over}
use Rattle.rules.specs.Rounding.{near}
use Rattle.rules.specs.Grid.{Lattice, cells_at, unit_at, inside, controls, control}
use Rattle.rules.specs.Surface.{denominator, surface, height}
use Rattle.rules.specs.Fit.{Shape, columns, rows, unit_of, Survey, base, from_base, level, raised, running, single_lattice, final_check, in_levels_check}
use Rattle.rules.specs.Fit.{the_d, level_surface, the_t, the_sum, the_v}
use Rattle.rules.specs.Answers.{require, answer}
use Rattle.rules.specs.Calls.{Lent, unit_check, lattice_check, height_check, height_answer, fit_check, finest, fit_call}
use Rattle.rules.specs.Demand3.{Multiple, EqualCase, Close, CloseEverywhere, Demand3}
use Rattle.rules.proofs.Laws.Rounding.{near_exact}
use Rattle.rules.specs.Laws.Passed.{Sides}
use Rattle.rules.proofs.Laws.Passed.{sides_pass, level_sides, survey_passed, fit_accepted}
use Rattle.rules.proofs.Laws.Checks.{require_met, then_first, then_rest, then_none}
use Rattle.rules.specs.Laws.Checks.{AllInRange}
use Rattle.rules.proofs.Laws.Checks.{range_check_size, size_range_check}
use Rattle.rules.specs.Laws.Surface.{Same, Inside, full}
use Rattle.rules.proofs.Laws.Surface.{surface_sum, surface_constant, surface_reads, height_distance, control_store, control_over, place_below}
use Rattle.rules.proofs.Laws.Base.{shifted_at, length_single}
use Rattle.rules.proofs.Laws.Fit.{length_running}
use Rattle.rules.specs.Laws.Levels.{Multiples, Levels, surface_at, surfaces_to}
use Rattle.rules.proofs.Laws.Levels.{full_power, surface_off, surface_equal}

-- ---- D, the one denominator of all levels

full_is : (U : ℕ) → full U ≡ 36 * U ^ 6
unfolding full denominator
full_is U = rw (pow-suc U 5, pow-suc U 4, pow-suc U 3, pow-suc U 2, pow-suc U 1, pow-suc U 0, pow-zero U) (omega arith)

the_d_full : (h : ℕ) → the_d h ≡ full (16 * 2 ^ h)
unfolding the_d
the_d_full h = sym (full_is (16 * 2 ^ h))

-- The exact surface of level k is its double sum over 36U⁶ with the U of level k. So it is 64^k times that sum, over D, as `the_t` has it.
pub level_denominator : (h k : ℕ) → k ≤ h → 64 ^ k * (36 * unit_at h k ^ 6) ≡ the_d h
unfolding unit_at
level_denominator h k l =
    let U = 16 * 2 ^ (h - k) in
    let widest : U * 2 ^ k ≡ 16 * 2 ^ h = omega (arith, pow-add 2 (h - k) k, ap (λ (d : ℕ). 2 ^ d) (sub-add_cancel l)) in
    rw (← full_is U, ← full_power U k, widest) (sym (the_d_full h))

-- ---- the lattices of a fit as sequences

module _ (a : Shape) (s : Survey) where
  level_at : ℕ → Lattice
  level_at k = control (columns a k) (level a s k)

  running_at : ℕ → Lattice
  running_at k = control (columns a k) (running a s k)

  fit_levels : Levels a.m0 a.n0 level_at running_at
  unfolding level_at running_at running raised columns rows
  fit_levels = record { first = refl; next = λ k. control_store (columns a (suc k)) (rows a (suc k)) _ }

  the_t_levels : (x y : ℕ) → the_t a s x y ≡ surfaces_to a.m0 a.n0 x y 16 a.h level_at
  unfolding the_t level_surface unit_of unit_at columns rows surfaces_to surface_at level_at
  the_t_levels x y = refl

-- ---- a height of 16 positions a cell

unit_listed : unit_check 16 ≡ none
unfolding unit_check require
unit_listed = refl

module _ (m n : ℕ) (lattice : List ℤ) (x y : ℕ) (i : Inside 16 m n x y) where
  height_passes : Sides 512 m n → controls m n ≤ length lattice → AllInRange (controls m n) lattice → height_check m n 16 lattice x y ≡ none
  unfolding height_check lattice_check inside
  height_passes counts long ranged =
      then_none _ _ (sides_pass 512 m n counts)
      ∙ then_none _ _ unit_listed
      ∙ then_none _ _ (require_met _ _ (le→leb (controls m n) (length lattice) long))
      ∙ then_none _ _ (size_range_check (controls m n) lattice _ ranged)
      ∙ require_met _ _ (yes_and (leb x (16 * m)) (leb y (16 * n)) (le→leb x (16 * m) i.x_inside) (le→leb y (16 * n) i.y_inside))

  -- it is within 1 of the exact surface
  height_off : (h : ℕ) → nat_abs (pos 2 *ℤ (pos (the_d h) *ℤ height 16 m n (control m lattice) x y -ℤ the_v h m n lattice x y)) ≤ 2 * the_d h
  unfolding the_v
  height_off h =
      let P = 64 ^ h in
      let F = full 16 in
      let H = height 16 m n (control m lattice) x y in
      let s = surface 16 m n (control m lattice) x y in
      let whole : the_d h ≡ P * F = the_d_full h ∙ full_power 16 h in
      rw (whole, parts (pos P) (pos F) H s, nat_abs_product (pos P) (pos 2 *ℤ (pos F *ℤ H -ℤ s)))
      (omega (arith, mul-le-mul_left P (height_distance 16 m n x y i (control m lattice))))
    where
      parts : (P F H s : ℤ) → pos 2 *ℤ (P *ℤ F *ℤ H -ℤ P *ℤ s) ≡ P *ℤ (pos 2 *ℤ (F *ℤ H -ℤ s))
      parts P F H s =
          let p = var 0 in
          let two = con (pos 2) in
          solve (two ⊠ (p ⊠ var 1 ⊠ var 2 ⊟ p ⊠ var 3)) (p ⊠ (two ⊠ (var 1 ⊠ var 2 ⊟ var 3))) (P ∷ F ∷ H ∷ s ∷ []) tt

-- ---- what an accepted fit has shown

record Shown (a : Shape) (s : Survey) : Type 0 where
  counts : Sides 512 (finest a).m (finest a).n
  sums : AllInRange (controls (finest a).m (finest a).n) (single_lattice a s)

-- wherever among the checks the final sums are judged
final_passed : (a : Shape) (s : Survey) (lent : Lent) → fit_check a s lent ≡ none → final_check a s ≡ none
unfolding fit_check in_levels_check
final_passed a s lent e = search (then_first, then_rest)

shown : (a : Shape) (s : Survey) (lent : Lent) → fit_check a s lent ≡ none → Shown a s
unfolding fit_check final_check columns rows
shown a s lent e =
    let surveyed = survey_passed a s (then_first _ _ e) in
    record {
      counts = level_sides a.m0 a.n0 a.h surveyed.sides surveyed.levels_most;
      sums = range_check_size _ _ _ (final_passed a s lent e);
    }

-- the positions of its grid
grid_inside : (a : Shape) → Sides 512 (finest a).m (finest a).n → (x y : ℕ) → x ≤ 16 * a.m0 * 2 ^ a.h → y ≤ 16 * a.n0 * 2 ^ a.h
    → Inside 16 (finest a).m (finest a).n x y
unfolding columns rows cells_at
grid_inside a c x y hx hy = omega arith

-- ---- the lattice that an accepted fit leaves

module _ (a : Shape) (s : Survey) (old : List ℤ) where
  -- the single lattice over the slice that the caller lent
  abbrev lattice : List ℤ
  lattice = over (single_lattice a s) old

  lattice_long : controls (finest a).m (finest a).n ≤ length lattice
  unfolding over
  lattice_long = let r = single_lattice a s in omega (arith, length_single a s, length-append r (drop (length r) old))

  lattice_ranged : Shown a s → AllInRange (controls (finest a).m (finest a).n) lattice
  lattice_ranged shown i l = rw (get_d_over (single_lattice a s) old i (pos 0) (rw (length_single a s) l)) (shown.sums i l)

  -- its control values are those of the last running lattice, each with the base
  lattice_raised : Same (finest a).m (finest a).n (control (finest a).m lattice) (λ i j. running_at a (from_base s) a.h i j +ℤ base s.zs)
  unfolding single_lattice running_at control
  lattice_raised =
      let m = (finest a).m in
      let n = (finest a).n in
      let last = running a (from_base s) a.h in
      record {
        same = λ i j h k.
            (control_over m n (single_lattice a s) old (length_single a s)).same i j h k
            ∙ shifted_at (base s.zs) last (j * (m + 3) + i) (rw (length_running a (from_base s) a.h) (place_below m n i j h k));
      }

  module _ (x y : ℕ) (i : Inside 16 (finest a).m (finest a).n x y) where
    -- V is the surface of the last running lattice, and the base: masks and numerators keep a constant
    lattice_surface : the_v a.h (finest a).m (finest a).n lattice x y ≡ surface_at a.m0 a.n0 x y 16 a.h (running_at a (from_base s) a.h) +ℤ base s.zs *ℤ pos (the_d a.h)
    unfolding the_v surface_at columns rows
    lattice_surface =
        let m = (finest a).m in
        let n = (finest a).n in
        let last = running_at a (from_base s) a.h in
        rw (
          surface_reads 16 m n i.across i.up (control m lattice) (λ i j. last i j +ℤ base s.zs) lattice_raised x y,
          surface_sum 16 m n last (λ i j. base s.zs) x y,
          surface_constant 16 m n (base s.zs) x y,
          the_d_full a.h,
          full_power 16 a.h,
        )
        (parts (pos (64 ^ a.h)) (surface 16 m n last x y) (pos (full 16)) (base s.zs))
      where
        parts : (P r F b : ℤ) → P *ℤ (r +ℤ F *ℤ b) ≡ P *ℤ r +ℤ b *ℤ (P *ℤ F)
        parts P r F b = solve (var 0 ⊠ (var 1 ⊞ var 2 ⊠ var 3)) (var 0 ⊠ var 1 ⊞ var 3 ⊠ (var 0 ⊠ var 2)) (P ∷ r ∷ F ∷ b ∷ []) tt

    V-off : nat_abs (pos 2 *ℤ (the_v a.h (finest a).m (finest a).n lattice x y -ℤ the_sum a s x y)) ≤ a.h * the_d a.h
    unfolding columns rows the_sum
    V-off =
        let v = surface_at a.m0 a.n0 x y 16 a.h (running_at a (from_base s) a.h) in
        let t = surfaces_to a.m0 a.n0 x y 16 a.h (level_at a (from_base s)) in
        let off = surface_off a.m0 a.n0 x y (level_at a (from_base s)) (running_at a (from_base s)) (fit_levels a (from_base s)) 16 a.h i in
        rw (lattice_surface, the_t_levels a (from_base s) x y)
        (subst (λ d. nat_abs (pos 2 *ℤ d) ≤ a.h * the_d a.h) (sym (apart v t (base s.zs *ℤ pos (the_d a.h)))) (rw (the_d_full a.h) off))
      where
        apart : (v t b : ℤ) → v +ℤ b -ℤ (t +ℤ b) ≡ v -ℤ t
        apart v t b = solve (var 0 ⊞ var 2 ⊟ (var 1 ⊞ var 2)) (var 0 ⊟ var 1) (v ∷ t ∷ b ∷ []) tt

    V-equal : EqualCase a (from_base s) → the_v a.h (finest a).m (finest a).n lattice x y ≡ the_sum a s x y
    unfolding columns rows level_at the_sum
    V-equal e =
        rw (lattice_surface, the_t_levels a (from_base s) x y)
        (ap (λ v. v +ℤ base s.zs *ℤ pos (the_d a.h))
        (surface_equal a.m0 a.n0 x y (level_at a (from_base s)) (running_at a (from_base s)) (fit_levels a (from_base s)) a.h multiples 16 i))
      where
        -- the factor of a multiple is what near gives
        multiples : (k : ℕ) → k ≤ a.h → Multiples (64 ^ (a.h - k)) (columns a k) (rows a k) (level_at a (from_base s) k)
        multiples k l =
            let d = 64 ^ (a.h - k) in
            record {
              factor = λ i j. near (level_at a (from_base s) k i j) d;
              is = record {
                same = λ i j hi hj.
                    let M : Multiple d (level_at a (from_base s) k i j) = e.multiple k l i j hi hj in
                    rw (M.is, near_exact M.factor d (one-le-pow (a.h - k) 64 (omega arith)));
              };
            }

    close : Shown a s → Close a s (finest a) lattice x y
    unfolding height_answer answer
    close shown = record {
      reading = H;
      accepted_height = rw (height_passes (finest a).m (finest a).n lattice x y i shown.counts lattice_long (lattice_ranged shown));
      distance =
          let height-part = height_off (finest a).m (finest a).n lattice x y i a.h in
          rw (parts (pos D) H v t) (omega (arith, nat_abs_sum (pos 2 *ℤ (pos D *ℤ H -ℤ v)) (pos 2 *ℤ (v -ℤ t)), height-part, V-off));
      equal = V-equal;
    }
      where
        H : ℤ
        H = height 16 (finest a).m (finest a).n (control (finest a).m lattice) x y

        D : ℕ
        D = the_d a.h

        v : ℤ
        v = the_v a.h (finest a).m (finest a).n lattice x y

        t : ℤ
        t = the_sum a s x y

        parts : (D H v t : ℤ) → pos 2 *ℤ D *ℤ H -ℤ pos 2 *ℤ t ≡ pos 2 *ℤ (D *ℤ H -ℤ v) +ℤ pos 2 *ℤ (v -ℤ t)
        parts D H v t =
            let two = con (pos 2) in
            solve (two ⊠ var 0 ⊠ var 1 ⊟ two ⊠ var 3) (two ⊠ (var 0 ⊠ var 1 ⊟ var 2) ⊞ two ⊠ (var 2 ⊟ var 3)) (D ∷ H ∷ v ∷ t ∷ []) tt

-- ---- demand 3

pub demand3 : (a : Shape) (s : Survey) (lent : Lent) → Demand3 a s (fit_call a s lent).answered (fit_call a s lent).slices.lattice
unfolding Demand3 CloseEverywhere
demand3 a s lent cells e x y hx hy =
    let call = fit_accepted a s lent cells e in
    let passed = shown a s lent call.unrefused in
    rw (call.lattice_is, ← call.counts) (close a s lent.lattice x y (grid_inside a passed.counts x y hx hy) passed)
