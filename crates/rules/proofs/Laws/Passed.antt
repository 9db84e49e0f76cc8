-- What checks that refuse nothing have shown: the bounds that a call goes on with.
use Rattle.std.specs.Prelude.{ℕ, zero, suc, ◌+◌, ◌*◌, ◌%◌, ◌^◌, ◌≤◌, ◌<◌, ◌≡◌, refl, ◌&&◌, ◌||◌, List, T, leb, eqb, ℤ, nat_abs, length}
use Rattle.std.proofs.Common.{sym, ◌∙◌, lt_of_le_of_lt, mod-eq_of_lt, mul-pos, mul-le-mul, arith, lit<, leb→le, le→leb, eqb→eq, pow_mono}
use Rattle.std.proofs.Math.Option.{none, some}
use Rattle.std.proofs.Math.Nat.{one-le-pow}
use Rattle.std.proofs.Math.Dec.{eqb_refl}
use Rattle.std.proofs.Math.Facts.{and_yes, yes_and}
use Rattle.rules.specs.Grid.{limit, within, in_range, confident, inside, cells_at, controls}
use Rattle.rules.specs.Fit.{Shape, Survey, point_count, point_at, differences, from_base, difference_check}
use Rattle.rules.specs.Answers.{Refusal, Check, cells, levels, unit, lists, position, range, confidence, difference, size, accepted, refused}
use Rattle.rules.specs.Calls.{counts_check, cells_check, unit_check, h_check, lists_check, stage_check, lattice_check, spot_check, point_check, points_check, survey_check}
use Rattle.rules.specs.Calls.{CellCounts, Lent, fit_check, results, cleared, fit_end, fit_call}
use Rattle.rules.proofs.Laws.Base.{length_differences}
use Rattle.rules.specs.Laws.Checks.{AllInRange}
use Rattle.rules.proofs.Laws.Checks.{required, require_met, within_bounds, bounds_within, then_first, then_rest, then_none, first_of_none, first_of_all, in_range_size, size_in_range, range_check_size}
use Rattle.rules.specs.Laws.Passed.{Sides, Gridded, Surveyed, Placed, FitAccepted}

pub cells_passed : (most m n : ℕ) → cells_check most m n ≡ none → Sides most m n
unfolding cells_check
cells_passed most m n e =
    let p = and_yes (within 1 most m) (within 1 most n) (required (within 1 most m && within 1 most n) cells e) in
    let x = within_bounds 1 most m p.0 in
    let y = within_bounds 1 most n p.1 in
    (x.0, x.1, y.0, y.1)

pub sides_pass : (most m n : ℕ) → Sides most m n → cells_check most m n ≡ none
unfolding cells_check
sides_pass most m n c =
    require_met _ _ (yes_and (within 1 most m) (within 1 most n) (bounds_within 1 most m (c.0, c.1)) (bounds_within 1 most n (c.2, c.3)))

pub unit_positive : (U : ℕ) → unit_check U ≡ none → 0 < U
unfolding unit_check
unit_positive U e = listed U (required (eqb U 16 || eqb U 32 || eqb U 64 || eqb U 128 || eqb U 256 || eqb U 512) unit e)
  where
    listed : (U : ℕ) → T (eqb U 16 || eqb U 32 || eqb U 64 || eqb U 128 || eqb U 256 || eqb U 512) → 0 < U
    listed zero t = absurd t
    listed (suc n) t = omega arith

-- 16 coarsest cells become 512 in 5 levels
pub cells_at_most : (m0 k : ℕ) → m0 ≤ 16 → k ≤ 5 → cells_at m0 k ≤ 512
unfolding cells_at
cells_at_most m0 k m l = mul-le-mul m (pow_mono l)

-- so where code shifts to the left it loses nothing of them
pub cells_at_shifted : (m0 k : ℕ) → m0 ≤ 16 → k ≤ 5 → (m0 * 2 ^ k) % 2 ^ 64 ≡ cells_at m0 k
unfolding cells_at
cells_at_shifted m0 k m l = mod-eq_of_lt (lt_of_le_of_lt (cells_at_most m0 k m l) (lit< tt))

pub cells_at_some : (m0 k : ℕ) → 1 ≤ m0 → 1 ≤ cells_at m0 k
unfolding cells_at
cells_at_some m0 k m = mul-pos m (one-le-pow k 2 (omega arith))

pub level_sides : (m0 n0 k : ℕ) → Sides 16 m0 n0 → k ≤ 5 → Sides 512 (cells_at m0 k) (cells_at n0 k)
level_sides m0 n0 k c l = (cells_at_some m0 k c.0, cells_at_most m0 k c.1 l, cells_at_some n0 k c.2, cells_at_most n0 k c.3 l)

pub cells_gridded : {m n e : ℕ} → cells_check 512 m n ≡ none → e ≤ 9 → Gridded m n e
cells_gridded {m} {n} c h = let p = cells_passed 512 m n c in record { m_some = p.0; m_most = p.1; n_some = p.2; n_most = p.3; e_most = h }

-- so the products of these bounds fit the machine
pub controls_fit : (m n : ℕ) → m ≤ 512 → n ≤ 512 → (m + 3) * (n + 3) ≤ 515 * 515
controls_fit m n h k =
    let a : m + 3 ≤ 515 = omega arith in
    let b : n + 3 ≤ 515 = omega arith in
    mul-le-mul a b

pub edge_fits : (e m : ℕ) → e ≤ 9 → m ≤ 512 → 2 ^ e * m ≤ 512 * 512
edge_fits e m h k = mul-le-mul (pow_mono {i = e} {j = 9} h) k

-- the same of a unit that is known to be 2^e
pub last_fits : {U : ℕ} (e m : ℕ) → U ≡ 2 ^ e → e ≤ 9 → m ≤ 512 → U * m ≤ 512 * 512
last_fits e m u h k = rw u (edge_fits e m h k)

-- ---- a raster's columns and rows

pub counts_passed : (across down : ℕ) → counts_check across down ≡ none → (across ≤ 8_193) × (down ≤ 8_193)
unfolding counts_check
counts_passed across down e =
    let wide = leb across 8_193 in
    let high = leb down 8_193 in
    let p = and_yes wide high (required (wide && high) size e) in
    (leb→le across 8_193 p.0, leb→le down 8_193 p.1)

-- ---- a stage, and a lattice

pub stage_passed : (stage : ℤ) → stage_check stage ≡ none → nat_abs stage ≤ limit
unfolding stage_check
stage_passed stage e = in_range_size stage (required (in_range stage) (range 0) e)

pub stage_passes : (stage : ℤ) → nat_abs stage ≤ limit → stage_check stage ≡ none
unfolding stage_check
stage_passes stage h = require_met (in_range stage) (range 0) (size_in_range stage h)

pub lattice_passed : (m n : ℕ) (values : List ℤ) → lattice_check m n values ≡ none → AllInRange (controls m n) values
unfolding lattice_check
lattice_passed m n values e = range_check_size (controls m n) values range e

pub survey_passed : (a : Shape) (s : Survey) → survey_check a s ≡ none → Surveyed a s
unfolding survey_check h_check lists_check
survey_passed a s e =
    let p = point_count s in
    let past-cells = then_rest _ _ e in
    let y = eqb p (length s.ys) in
    let z = eqb p (length s.zs) in
    let q = eqb p (length s.qs) in
    let all = and_yes (y && z && q) (leb p 65_535) (required _ lists (then_rest _ _ past-cells)) in
    let as_many = and_yes (y && z) q all.0 in
    let positions = and_yes y z as_many.0 in
    record {
      sides = cells_passed 16 a.m0 a.n0 (then_first _ _ e);
      levels_most = leb→le a.h 5 (required _ levels (then_first _ _ past-cells));
      as_many_y = sym (eqb→eq p _ positions.0);
      as_many_z = sym (eqb→eq p _ positions.1);
      as_many_q = sym (eqb→eq p _ as_many.1);
      points_most = leb→le p 65_535 all.1;
    }

pub surveyed_passes : (a : Shape) (s : Survey) → Surveyed a s → survey_check a s ≡ none
unfolding survey_check h_check lists_check
surveyed_passes a s w =
    let p = point_count s in
    let y = eqb p (length s.ys) in
    let z = eqb p (length s.zs) in
    let q = eqb p (length s.qs) in
    let as_many = yes_and (y && z) q (yes_and y z (equal w.as_many_y) (equal w.as_many_z)) (equal w.as_many_q) in
    then_none _ _ (sides_pass 16 a.m0 a.n0 w.sides)
    ∙ then_none _ _ (require_met _ _ (le→leb a.h 5 w.levels_most))
    ∙ require_met _ _ (yes_and (y && z && q) (leb p 65_535) as_many (le→leb p 65_535 w.points_most))
  where
    equal : {m n : ℕ} → m ≡ n → T (eqb n m)
    equal {m} e = rw (← e) (eqb_refl m)

pub points_passed : (U m n : ℕ) (s : Survey) → points_check U m n s ≡ none → (i : ℕ) → i < point_count s → Placed U m n s i
unfolding points_check point_check spot_check inside confident
points_passed U m n s e i l =
    let here = first_of_none (point_count s) _ e i l in
    let spot = then_first _ _ here in
    let at = and_yes (inside U m (point_at s i).x) (inside U n (point_at s i).y) (required _ (position i) (then_first _ _ spot)) in
    let q = within_bounds 1 255 (point_at s i).q (required _ (confidence i) (then_rest _ _ here)) in
    record {
      x_inside = leb→le _ (U * m) at.0;
      y_inside = leb→le _ (U * n) at.1;
      z_size = in_range_size _ (required _ (range i) (then_rest _ _ spot));
      q_some = q.0;
      q_most = q.1;
    }

pub placed_pass : (U m n : ℕ) (s : Survey) → ((i : ℕ) → i < point_count s → Placed U m n s i) → points_check U m n s ≡ none
unfolding points_check point_check spot_check inside confident
placed_pass U m n s all =
    first_of_all (point_count s) _
    (λ i l.
    let p = point_at s i in
    let at = yes_and (leb p.x (U * m)) (leb p.y (U * n)) (le→leb _ _ (all i l).x_inside) (le→leb _ _ (all i l).y_inside) in
    then_none _ _ (then_none _ _ (require_met _ _ at) ∙ require_met _ _ (size_in_range p.z (all i l).z_size))
    ∙ require_met _ _ (bounds_within 1 255 p.q ((all i l).q_some, (all i l).q_most)))

-- ---- the differences

-- a survey of differences is one
pub based_surveyed : {a : Shape} {s : Survey} → Surveyed a s → Surveyed a (from_base s)
based_surveyed {s = s} w = record {
  sides = w.sides;
  levels_most = w.levels_most;
  as_many_y = w.as_many_y;
  as_many_z = length_differences s.zs ∙ w.as_many_z;
  as_many_q = w.as_many_q;
  points_most = w.points_most;
}

-- and where 15 refuses nothing its points are in order
pub based_placed : {a : Shape} {U m n : ℕ} {s : Survey} → Surveyed a s → difference_check s.zs ≡ none
    → ((i : ℕ) → i < point_count s → Placed U m n s i) → (i : ℕ) → i < point_count s → Placed U m n (from_base s) i
unfolding difference_check
based_placed {s = s} w e placed i l = record {
  x_inside = (placed i l).x_inside;
  y_inside = (placed i l).y_inside;
  z_size = range_check_size (length s.zs) (differences s.zs) difference e i (rw w.as_many_z l);
  q_some = (placed i l).q_some;
  q_most = (placed i l).q_most;
}

pub fit_accepted : (a : Shape) (s : Survey) (lent : Lent) (k : CellCounts) → (fit_call a s lent).answered ≡ accepted k → FitAccepted a s lent k
unfolding fit_call fit_end cleared results
fit_accepted a s lent k = go (fit_check a s lent) refl
  where
    apart : (r : Refusal) → refused r ≡ accepted k → ⊥
    apart r e = let z : ◌≡◌ {A = ℕ} 0 1 = cc in omega arith

    go : (c : Check) → fit_check a s lent ≡ c → (fit_end a s lent c).answered ≡ accepted k → FitAccepted a s lent k
    go none u e = record { unrefused = u; counts = cc; lattice_is = rw u refl }
    go (some r) u e = absurd (apart r e)

pub fit_refused : (a : Shape) (s : Survey) (lent : Lent) (r : Refusal) → (fit_call a s lent).answered ≡ refused r → fit_check a s lent ≡ some r
unfolding fit_call fit_end
fit_refused a s lent r = go (fit_check a s lent)
  where
    go : (c : Check) → (fit_end a s lent c).answered ≡ refused r → c ≡ some r
    go none e = cc
    go (some q) e = cc
