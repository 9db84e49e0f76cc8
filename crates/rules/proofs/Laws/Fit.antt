-- Laws of the whole fit's lists: their lengths, that every level lattice is in range, and a running lattice by its entries.
use Rattle.std.specs.Prelude.{◌≡◌, refl, Bool, true, false, cond, List, ℕ, zero, suc, ◌+◌, ◌*◌, ◌/◌, ◌%◌, ◌≤◌, T, ℤ, pos, nat_abs, ◌+ℤ◌, length, get_or}
use Rattle.std.proofs.Common.{sym, ap, ap₂, subst, zero-le, div-add-mod'}
use Rattle.std.proofs.Math.Option.{Option, none, some}
use Rattle.algebra.specs.Table.{tabulate, length_tabulate, get_d_tabulate, tabulate_same}
use Rattle.rules.specs.Grid.{limit, in_range, controls, control, store}
use Rattle.rules.specs.Level.{Coefficient, fitted, untouched, near_float, kept, settled, fitted_at}
use Rattle.rules.specs.Refinement.{refined}
use Rattle.rules.specs.Fit.{Shape, columns, rows, Survey, point_count, valued, level_value, or_zero, level_of, lowered, raised, residuals, level, running, sum_check}
use Rattle.rules.specs.Answers.{sum}
use Rattle.rules.specs.Laws.Checks.{AllInRange}
use Rattle.rules.proofs.Laws.Checks.{in_range_size, size_range_check}
use Rattle.rules.proofs.Laws.Levels.{cells_double}
use Rattle.rules.proofs.Laws.Surface.{length_store}

-- ---- level lattices are in range

settled_size : (c : Coefficient) → nat_abs (or_zero (settled c)) ≤ limit
unfolding settled kept or_zero
settled_size untouched = zero-le
settled_size (fitted q) = go (near_float q)
  where
    near_size : (z : ℤ) (b : Bool) → in_range z ≡ b → nat_abs (or_zero (cond b (some z) none)) ≤ limit
    near_size z true e = in_range_size z (subst T (sym e) tt)
    near_size z false e = zero-le

    go : (o : Option ℤ) → nat_abs (or_zero (kept o)) ≤ limit
    go none = zero-le
    go (some z) = near_size z (in_range z) refl

pub level_size : (a : Shape) (k : ℕ) (s : Survey) → AllInRange (controls (columns a k) (rows a k)) (level_of a k s)
unfolding level_of store level_value fitted_at
level_size a k s i h =
    subst (λ z. nat_abs z ≤ limit) (sym (get_d_tabulate (controls (columns a k) (rows a k)) _ i (pos 0) h)) (settled_size _)

-- so no sum of the running lattice of level 0, which is the level lattice, leaves its range
pub first_sums : (a : Shape) (s : Survey) → sum_check a s 0 ≡ none
unfolding sum_check running level
first_sums a s =
    size_range_check (controls (columns a 0) (rows a 0)) (level a s 0) (λ i. sum 0) (level_size a 0 (valued s (residuals a s 0)))

-- ---- a running lattice, by its entries

-- a stored lattice, at a place of it
control_at : (m : ℕ) (stored : List ℤ) (q : ℕ) → control m stored (q % (m + 3)) (q / (m + 3)) ≡ get_or stored q (pos 0)
unfolding control
control_at m stored q = ap (λ i. get_or stored i (pos 0)) (div-add-mod' q (m + 3))

-- "refine the running lattice .. and add level lattice k to it"
pub next_running : (a : Shape) (s : Survey) (k : ℕ)
    → running a s (suc k)
    ≡ tabulate (controls (columns a (suc k)) (rows a (suc k)))
    (λ q. get_or (store (2 * columns a k) (2 * rows a k) (refined (control (columns a k) (running a s k)))) q (pos 0)
    +ℤ get_or (level a s (suc k)) q (pos 0))
unfolding running raised store columns rows
next_running a s k =
    rw (← cells_double a.m0 k, ← cells_double a.n0 k)
    (tabulate_same count _ _ (λ q h.
    ap₂ ◌+ℤ◌ (sym (get_d_tabulate count _ q (pos 0) h)) (control_at (columns a (suc k)) (level a s (suc k)) q)))
  where
    count : ℕ
    count = controls (columns a (suc k)) (rows a (suc k))

-- ---- lengths

pub length_level : (a : Shape) (s : Survey) (k : ℕ) → length (level a s k) ≡ controls (columns a k) (rows a k)
unfolding level level_of
length_level a s k = length_store (columns a k) (rows a k) _

pub length_running : (a : Shape) (s : Survey) (k : ℕ) → length (running a s k) ≡ controls (columns a k) (rows a k)
unfolding running raised
length_running a s zero = length_level a s 0
length_running a s (suc k) = length_store (columns a (suc k)) (rows a (suc k)) _

pub length_residuals : (a : Shape) (s : Survey) (k : ℕ) → length s.zs ≡ point_count s → length (residuals a s k) ≡ point_count s
unfolding residuals lowered
length_residuals a s zero e = e
length_residuals a s (suc k) e = length_tabulate (point_count s) _
