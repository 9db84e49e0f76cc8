-- Laws of the base: it is in range where the heights are; and of what it is taken from and added to, entry by entry.
use Rattle.std.specs.Prelude.{◌≡◌, refl, List, ℕ, zero, suc, ◌+◌, ◌*◌, ◌≤◌, ◌<◌, ℤ, pos, neg_ℤ, nat_abs, ◌+ℤ◌, ◌-ℤ◌, length, get_or}
use Rattle.std.proofs.Common.{◌∙◌, zero-le, add-one, arith}
use Rattle.algebra.specs.Size.{nat_abs_sum}
use Rattle.algebra.specs.Table.{length_tabulate, get_d_tabulate}
use Rattle.rules.specs.Grid.{limit, controls}
use Rattle.rules.specs.Fit.{Shape, columns, rows, Survey, total, near_mean, base, shifted, differences, from_base, single_lattice}
use Rattle.rules.proofs.Laws.Rounding.{near_within}
use Rattle.rules.specs.Laws.Checks.{AllInRange}
use Rattle.rules.proofs.Laws.Fit.{length_running}

-- ---- the sum of heights, and their base

pub total_more : (n : ℕ) (values : List ℤ) → total (n + 1) values ≡ total n values +ℤ get_or values n (pos 0)
unfolding total
total_more n values = rw (add-one n) refl

pub total_size : (n : ℕ) (values : List ℤ) → AllInRange n values → nat_abs (total n values) ≤ n * limit
unfolding total
total_size zero values r = zero-le
total_size (suc n) values r =
    omega (arith, nat_abs_sum (total n values) (get_or values n (pos 0)), total_size n values (λ i l. r i (omega arith)), r n (omega arith))

mean_size : (n : ℕ) (v : ℤ) (B : ℕ) → nat_abs v ≤ n * B → nat_abs (near_mean v n) ≤ B
unfolding near_mean
mean_size zero v B h = zero-le
mean_size (suc n) v B h = near_within v (suc n) B (omega arith) h

pub base_size : (zs : List ℤ) → AllInRange (length zs) zs → nat_abs (base zs) ≤ limit
unfolding base
base_size zs r = mean_size (length zs) _ limit (total_size (length zs) zs r)

-- "0 with no points"
pub no_base : (zs : List ℤ) → length zs ≡ 0 → base zs ≡ pos 0
unfolding base near_mean
no_base zs e = rw e refl

-- ---- differences, and the finished lattice

pub length_shifted : (b : ℤ) (values : List ℤ) → length (shifted b values) ≡ length values
unfolding shifted
length_shifted b values = length_tabulate (length values) _

pub shifted_at : (b : ℤ) (values : List ℤ) (i : ℕ) → i < length values → get_or (shifted b values) i (pos 0) ≡ get_or values i (pos 0) +ℤ b
unfolding shifted
shifted_at b values i l = get_d_tabulate (length values) _ i (pos 0) l

pub length_differences : (zs : List ℤ) → length (differences zs) ≡ length zs
unfolding differences
length_differences zs = length_shifted (neg_ℤ (base zs)) zs

pub difference_at : (zs : List ℤ) (i : ℕ) → i < length zs → get_or (differences zs) i (pos 0) ≡ get_or zs i (pos 0) -ℤ base zs
unfolding differences
difference_at zs i l = shifted_at (neg_ℤ (base zs)) zs i l

pub length_single : (a : Shape) (s : Survey) → length (single_lattice a s) ≡ controls (columns a a.h) (rows a a.h)
unfolding single_lattice
length_single a s = length_shifted (base s.zs) _ ∙ length_running a (from_base s) a.h
