-- Document 02's job 8: "With q = 1 throughout, lattice and residuals equal the earlier ones to the bit." The earlier rules are kept here as definitions:
-- document 01's growth of the sums, the fit by it, and its call on three lists.
use Rattle.std.specs.Prelude.{◌≡◌, ◌&&◌, cond, List, [], ◌∷◌, ℤ, pos, Float, length, get_or}
use Rattle.std.proofs.Math.Path.{refl, ap, ap₂}
use Rattle.std.proofs.Common.{◌∙◌, arith}
use Rattle.std.proofs.Math.Bool.{true, and-true}
use Rattle.std.proofs.Math.Option.{none, some}
use Prim.Native.Nat.{ℕ, zero, suc, ◌+◌, ◌-◌, ◌/◌, ◌%◌, ◌<◌}
use Rattle.std.proofs.Math.Dec.{leb, eqb, eqb_refl}
use Rattle.std.specs.Float.{binary64}
use Rattle.std.specs.Float.Ieee.Bits.{is_true}
use Rattle.std.specs.Float.Ieee.Fits.{mul-fits}
use Rattle.algebra.specs.Table.{length_tabulate, get_d_tabulate}
use Rattle.rules.specs.Grid.{confident, within, controls, store}
use Rattle.rules.specs.Surface.{cell}
use Rattle.rules.specs.Level.{◌⊕◌, ◌⊗◌, ◌⊘◌, float, Point, Sums, no_sums, weight, squares, grown, uses, touched, gathered, coefficient, settled, fitted_at}
use Rattle.rules.specs.Fit.{Shape, columns, rows, unit_of, Survey, point_count, point_at, points_of, AllOne, valued, base, shifted, from_base}
use Rattle.rules.specs.Fit.{level_value, or_zero, level_of, lowered, raised, residuals, level, running, single_lattice, last_residuals}
use Rattle.rules.specs.Fit.{present, quotient_check, residual_check, sum_check, level_check, levels_check, final_check, in_levels_check}
use Rattle.rules.specs.Answers.{lists, confidence, quotient, residual, sum, Check, require, ◌then◌, first_of, range_check}
use Rattle.rules.specs.Calls.{Lent, lists_check, spot_check, point_check, points_check, survey_check, fit_check, results, fit_end, fit_call}
use Rattle.rules.proofs.Laws.Checks.{then_pass, first_of_same}
use Rattle.rules.proofs.Laws.Floats.{one_times}
use Rattle.rules.specs.Laws.Confidence.{earlier_grown, earlier_touched, earlier_gathered, earlier_value, earlier_level_of, earlier_residuals, earlier_level, earlier_running, earlier_lattice, earlier_last_residuals, earlier_level_check, earlier_in_levels_check, earlier_lists_check, earlier_check, earlier_end, earlier_call, AsEarlier}

-- ---- they are the rules with q = 1

one_grown : (w z S : Float) (sums : Sums) → grown (float (pos 1)) w z S sums ≡ earlier_grown w z S sums
unfolding grown earlier_grown
one_grown w z S sums =
    ap (λ v. record { first = sums.first ⊕ v ⊗ ((w ⊗ z) ⊘ S); second = sums.second ⊕ v }) (one_times (w ⊗ w) (mul-fits binary64 w w))

one_touched : (U m n s t : ℕ) (p : Point) (sums : Sums) → p.q ≡ 1 → touched U m n s t p sums ≡ earlier_touched U m n s t p sums
unfolding touched earlier_touched
one_touched U m n s t p sums e =
    let w = weight U m n p in
    let x = cell U m p.x in
    let y = cell U n p.y in
    ap (λ v. cond (uses x s && uses y t) v sums)
    (ap (λ q. grown (float (pos q)) (w (s - x) (t - y)) (float p.z) (squares w) sums) e ∙ one_grown (w (s - x) (t - y)) (float p.z) (squares w) sums)

one_gathered : (U m n s t : ℕ) (ps : List Point) (d : Point) (sums : Sums) → ((i : ℕ) → i < length ps → (get_or ps i d).q ≡ 1)
    → gathered U m n s t ps sums ≡ earlier_gathered U m n s t ps sums
unfolding gathered earlier_gathered
one_gathered U m n s t [] d sums one = refl
one_gathered U m n s t (p ∷ ps) d sums one =
    ap (gathered U m n s t ps) (one_touched U m n s t p sums (one 0 (omega arith)))
    ∙ one_gathered U m n s t ps d (earlier_touched U m n s t p sums) (λ i l. one (suc i) (omega arith))

module _ (a : Shape) (s : Survey) (one : AllOne s) where
  one_value : (k : ℕ) (values : List ℤ) (i j : ℕ) → level_value a k (valued s values) i j ≡ earlier_value a k (valued s values) i j
  unfolding level_value fitted_at earlier_value points_of
  one_value k values i j =
      ap (λ v. settled (coefficient v))
      (one_gathered (unit_of a k) (columns a k) (rows a k) i j (points_of (valued s values)) (point_at (valued s values) 0) no_sums
      (λ q l.
      let below : q < point_count s = rw (length_tabulate (point_count s) (point_at (valued s values))) at l in
      ap (λ (p : Point). p.q) (get_d_tabulate (point_count s) (point_at (valued s values)) q _ below) ∙ one q below))

  one_level_of : (k : ℕ) (values : List ℤ) → level_of a k (valued s values) ≡ earlier_level_of a k (valued s values)
  unfolding level_of earlier_level_of
  one_level_of k values = λ t. store (columns a k) (rows a k) (λ i j. or_zero (one_value k values i j t))

  pub one_residuals : (k : ℕ) → residuals a s k ≡ earlier_residuals a s k
  unfolding residuals earlier_residuals
  one_residuals zero = refl
  one_residuals (suc k) =
      ap (λ v. lowered a k (level_of a k (valued s v)) (valued s v)) (one_residuals k)
      ∙ ap (λ v. lowered a k v (valued s (earlier_residuals a s k))) (one_level_of k (earlier_residuals a s k))

  one_level : (k : ℕ) → level a s k ≡ earlier_level a s k
  unfolding level earlier_level
  one_level k = ap (λ v. level_of a k (valued s v)) (one_residuals k) ∙ one_level_of k (earlier_residuals a s k)

  pub one_running : (k : ℕ) → running a s k ≡ earlier_running a s k
  unfolding running earlier_running
  one_running zero = one_level zero
  one_running (suc k) = ap₂ (raised a k) (one_running k) (one_level (suc k))

  one_level_check : (k : ℕ) → level_check a s k ≡ earlier_level_check a s k
  unfolding level_check quotient_check residual_check sum_check earlier_level_check
  one_level_check k = λ t.
      first_of (controls (columns a k) (rows a k)) (λ q. require (present (value (q % (columns a k + 3)) (q / (columns a k + 3)) t)) (quotient k))
      then range_check (point_count s) (one_residuals (suc k) t) (λ i. residual k)
      then range_check (controls (columns a k) (rows a k)) (one_running k t) (λ q. sum k)
    where
      value : (i j : ℕ) → level_value a k (valued s (residuals a s k)) i j ≡ earlier_value a k (valued s (earlier_residuals a s k)) i j
      value i j = ap (λ v. level_value a k (valued s v) i j) (one_residuals k) ∙ one_value k (earlier_residuals a s k) i j

pub as_earlier : (a : Shape) (s : Survey) → AllOne s → AsEarlier a s
unfolding single_lattice earlier_lattice last_residuals earlier_last_residuals in_levels_check levels_check final_check earlier_in_levels_check
as_earlier a s one = record { lattice = finished; residual = one_residuals a (from_base s) one (a.h + 1); refusals = same_refusals }
  where
    finished : single_lattice a s ≡ earlier_lattice a s
    finished = ap (shifted (base s.zs)) (one_running a (from_base s) one a.h)

    same_refusals : in_levels_check a s ≡ earlier_in_levels_check a s
    same_refusals = λ t.
        first_of (a.h + 1) (λ k. one_level_check a (from_base s) one k t)
        then range_check (controls (columns a a.h) (rows a a.h)) (finished t) (λ q. sum a.h)

-- ---- the call, with a list of as many q

module _ (a : Shape) (s : Survey) (as_many : length s.qs ≡ point_count s) (one : AllOne s) where
  lists_same : lists_check s ≡ earlier_lists_check s
  unfolding lists_check earlier_lists_check
  lists_same =
      let p = point_count s in
      let three = eqb p (length s.ys) && eqb p (length s.zs) in
      let fourth : eqb p (length s.qs) ≡ true = rw as_many (is_true _ (eqb_refl p)) in
      ap (λ b. require (three && b && leb p 65_535) lists) fourth ∙ ap (λ b. require (b && leb p 65_535) lists) (and-true three)

  points_same : (U m n : ℕ) → points_check U m n s ≡ first_of (point_count s) (λ i. spot_check U m n i (point_at s i))
  unfolding points_check point_check confident within require
  points_same U m n =
      first_of_same (point_count s) _ _ (λ i l.
      let p = point_at s i in
      let sure : require (confident p.q) (confidence i) ≡ none = rw (one i l) refl in
      ap (λ c. spot_check U m n i p then c) sure ∙ then_pass _)

  pub call_as_earlier : (lent : Lent) → fit_call a s lent ≡ earlier_call a s lent
  unfolding fit_call fit_check survey_check earlier_call earlier_check fit_end results earlier_end
  call_as_earlier lent =
      let e = as_earlier a s one in
      rw (lists_same, points_same 16 (columns a a.h) (rows a a.h), e.refusals) (ends (earlier_check a s lent))
    where
      ends : (c : Check) → fit_end a s lent c ≡ earlier_end a s lent c
      ends none = rw ((as_earlier a s one).lattice, (as_earlier a s one).residual) refl
      ends (some r) = refl
