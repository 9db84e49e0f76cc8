-- What the laws of `proofs/Laws/Confidence` speak of.
use Rattle.std.specs.Prelude.{◌≡◌, ◌&&◌, cond, List, [], ◌∷◌, ℤ, Float, length}
use Rattle.std.proofs.Math.Option.{Option, none, some}
use Prim.Native.Nat.{ℕ, zero, suc, ◌+◌, ◌-◌, ◌/◌, ◌%◌}
use Rattle.std.proofs.Math.Dec.{leb, eqb}
use Rattle.algebra.specs.Table.{over}
use Rattle.rules.specs.Grid.{controls, store}
use Rattle.rules.specs.Surface.{cell}
use Rattle.rules.specs.Level.{◌⊕◌, ◌⊗◌, ◌⊘◌, float, Point, Sums, no_sums, weight, squares, uses, coefficient, settled}
use Rattle.rules.specs.Fit.{Shape, columns, rows, unit_of, Survey, point_count, point_at, points_of, valued, base, shifted, from_base}
use Rattle.rules.specs.Fit.{or_zero, lowered, raised, single_lattice, last_residuals}
use Rattle.rules.specs.Fit.{present, difference_check, in_levels_check}
use Rattle.rules.specs.Answers.{lists, quotient, residual, sum, in_levels, Check, require, ◌then◌, first_of, range_check, accepted, refused, Outcome, outcome}
use Rattle.rules.specs.Calls.{CellCounts, Lent, cells_check, h_check, spot_check, lent_check, finest, cleared}

-- ---- the earlier rules

-- "the first grows by (w × w) × ((w × z) / S), the second by w × w"
unfoldable pub earlier_grown : Float → Float → Float → Sums → Sums
earlier_grown w z S sums = record { first = sums.first ⊕ (w ⊗ w) ⊗ ((w ⊗ z) ⊘ S); second = sums.second ⊕ w ⊗ w }

unfoldable pub earlier_touched : ℕ → ℕ → ℕ → ℕ → ℕ → Point → Sums → Sums
earlier_touched U m n s t p sums =
    let c = cell U m p.x in
    let r = cell U n p.y in
    let w = weight U m n p in
    cond (uses c s && uses r t) (earlier_grown (w (s - c) (t - r)) (float p.z) (squares w) sums) sums

unfoldable pub earlier_gathered : ℕ → ℕ → ℕ → ℕ → ℕ → List Point → Sums → Sums
earlier_gathered U m n s t [] sums = sums
earlier_gathered U m n s t (p ∷ ps) sums = earlier_gathered U m n s t ps (earlier_touched U m n s t p sums)

-- the control value of level lattice k in column i and row j, none where it is refused
unfoldable pub earlier_value : Shape → ℕ → Survey → ℕ → ℕ → Option ℤ
earlier_value a k s i j = settled (coefficient (earlier_gathered (unit_of a k) (columns a k) (rows a k) i j (points_of s) no_sums))

unfoldable pub earlier_level_of : Shape → ℕ → Survey → List ℤ
earlier_level_of a k s = store (columns a k) (rows a k) (λ i j. or_zero (earlier_value a k s i j))

unfoldable pub earlier_residuals : Shape → Survey → ℕ → List ℤ
earlier_residuals a s zero = s.zs
earlier_residuals a s (suc k) = let before = valued s (earlier_residuals a s k) in lowered a k (earlier_level_of a k before) before

unfoldable pub earlier_level : Shape → Survey → ℕ → List ℤ
earlier_level a s k = earlier_level_of a k (valued s (earlier_residuals a s k))

unfoldable pub earlier_running : Shape → Survey → ℕ → List ℤ
earlier_running a s zero = earlier_level a s zero
earlier_running a s (suc k) = raised a k (earlier_running a s k) (earlier_level a s (suc k))

unfoldable pub earlier_lattice : Shape → Survey → List ℤ
earlier_lattice a s = shifted (base s.zs) (earlier_running a (from_base s) a.h)

unfoldable pub earlier_last_residuals : Shape → Survey → List ℤ
earlier_last_residuals a s = earlier_residuals a (from_base s) (a.h + 1)

-- 7, 13 and 14 of a level, and of the levels with the final sum
unfoldable pub earlier_level_check : Shape → Survey → ℕ → Check
earlier_level_check a s k =
    let w = columns a k + 3 in
    let K = controls (columns a k) (rows a k) in
    first_of K (λ q. require (present (earlier_value a k (valued s (earlier_residuals a s k)) (q % w) (q / w))) (quotient k))
    then range_check (point_count s) (earlier_residuals a s (suc k)) (λ i. residual k)
    then range_check K (earlier_running a s k) (λ q. sum k)

unfoldable pub earlier_in_levels_check : Shape → Survey → Check
earlier_in_levels_check a s =
    first_of (a.h + 1) (earlier_level_check a (from_base s))
    then range_check (controls (columns a a.h) (rows a a.h)) (earlier_lattice a s) (λ q. sum a.h)

-- 3 of three lists
unfoldable pub earlier_lists_check : Survey → Check
earlier_lists_check s = let p = point_count s in require (eqb p (length s.ys) && eqb p (length s.zs) && leb p 65_535) lists

unfoldable pub earlier_check : Shape → Survey → Lent → Check
earlier_check a s lent =
    (cells_check 16 a.m0 a.n0 then h_check a.h then earlier_lists_check s)
    then lent_check a (point_count s) lent
    then first_of (point_count s) (λ i. spot_check 16 (columns a a.h) (rows a a.h) i (point_at s i))
    then difference_check s.zs
    then earlier_in_levels_check a s

unfoldable pub earlier_end : Shape → Survey → Lent → Check → Outcome CellCounts Lent
earlier_end a s lent none =
    outcome (accepted (finest a)) (cleared a (point_count s) (record {
      lattice = over (earlier_lattice a s) lent.lattice;
      residual = over (earlier_last_residuals a s) lent.residual;
      whole = lent.whole;
      floats = lent.floats;
    }))
earlier_end a s lent (some r) = outcome (refused r) (cond (in_levels r) (cleared a (point_count s) lent) lent)

unfoldable pub earlier_call : Shape → Survey → Lent → Outcome CellCounts Lent
earlier_call a s lent = earlier_end a s lent (earlier_check a s lent)

-- ---- the whole fit

-- lattice, residuals, and what the levels refuse
pub record AsEarlier (a : Shape) (s : Survey) : Type 0 where
  pub lattice : single_lattice a s ≡ earlier_lattice a s
  pub residual : last_residuals a s ≡ earlier_last_residuals a s
  pub refusals : in_levels_check a s ≡ earlier_in_levels_check a s
