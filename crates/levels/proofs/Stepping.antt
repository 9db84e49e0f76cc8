-- One level and all levels: the checks of a level's two halves are those of the level, and the levels' are those of the fit.
use Rattle.std.proofs.Common.{◌≡◌, refl, sym, ap, subst, ◌∙◌, List, ℕ, zero, suc, ◌+◌, ◌*◌, ◌%◌, ◌^◌, ◌≤◌, ◌<◌, arith, add-one, ℤ, length}
use Rattle.std.specs.Float.Ieee.{Float}
use Rattle.std.proofs.Math.Option.{none, some}
use Rattle.algebra.specs.Table.{Free, area, free_between, free_length, free_again}
use Rattle.rules.specs.Answers.{Refusal, Check, ◌then◌, first_of}
use Rattle.rules.specs.Grid.{cells_at}
use Rattle.rules.specs.Fit.{Shape, columns, rows, unit_of, Survey, point_count, residuals, level_check, levels_check, quotient_check, residual_check, sum_check}
use Rattle.rules.specs.Calls.{K}
use Rattle.rules.proofs.Laws.Checks.{then_none, then_assoc, first_of_at}
use Rattle.scratch.specs.Scratch.{Levelable, survey_at, Before, LevelReady, RunningThere, Judged, FirstHalf, SecondHalf, WholeLevel, Levelled}
use Rattle.scratch.specs.Sizes.{celled, span}
use Rattle.scratch.specs.Judging.{judged_refused, first_refused, then_judged}
use Rattle.scratch.specs.Kept.{residuals_kept}

-- ---- one level

-- what its first half asks
pub level_ready : {a : Shape} {s : Survey} {most k m n e : ℕ} {whole : List ℤ} {F : ℕ} → Levelable a s most (length whole) F → Before a s most k whole → k ≤ a.h
    → m ≡ cells_at a.m0 k → n ≡ cells_at a.n0 k → 2 ^ e ≡ unit_of a k → e ≤ 9 → LevelReady a s most k m n e whole F
unfolding unit_of columns rows
level_ready {a = a} {k = k} p b l m_is n_is wide e_most = record {
  celled = celled p l m_is n_is;
  unit_is = wide;
  e_most = e_most;
  before = b;
  as_many_y = p.surveyed.as_many_y;
  as_many_z = p.surveyed.as_many_z;
  as_many_q = p.surveyed.as_many_q;
  placed = λ i h. record {
    x_inside = rw (wide, m_is, span a.m0 a.h k l) (p.placed i h).x_inside;
    y_inside = rw (wide, n_is, span a.n0 a.h k l) (p.placed i h).y_inside;
    z_size = b.residuals_there.ranged i h;
    q_some = (p.placed i h).q_some;
    q_most = (p.placed i h).q_most;
  };
  whole_room = p.whole_room;
  floats_room = p.floats_room;
}

module _ {a : Shape} {s : Survey} {most k : ℕ} {found : Check} {whole now : List ℤ} (h : FirstHalf a s most k found whole) where
  halves : {last : Check} → Judged ((quotient_check a s k then residual_check a s k) then sum_check a s k) (Before a s most (suc k)) last now
      → WholeLevel a s most k last now
  unfolding level_check
  halves j = record { is = j.is ∙ then_assoc (quotient_check a s k) (residual_check a s k) (sum_check a s k); leaves = j.leaves }

  pub level_refused : {r : Refusal} → found ≡ some r → WholeLevel a s most k (some r) now
  level_refused e = halves (first_refused h (sum_check a s k) e)

  pub level_done : {last : Check} → found ≡ none → 2 * most ≤ length whole → Free 0 (2 * most) whole now → SecondHalf a s most k last now → WholeLevel a s most k last now
  level_done e room f r =
      halves
      (then_judged h e
      (record {
        is = r.is;
        leaves = λ n. record {
          residuals_there = residuals_kept f (omega arith) (h.leaves e).residuals_there (omega arith);
          running_before = λ j q. let same : k ≡ j = omega arith in subst (λ i. RunningThere a s most i now) same (r.leaves n);
        };
      }))

-- ---- the levels

-- before level k of a fit whose levels before it were not refused
pub record Passing (a : Shape) (s : Survey) (most k : ℕ) (whole₀ whole : List ℤ) (floats₀ floats : List Float) : Type 0 where
  pub within : k ≤ a.h + 1
  pub before : Before a s most k whole
  pub passed : first_of k (level_check a s) ≡ none
  pub whole_free : Free 0 (3 * most + point_count s) whole₀ whole
  pub floats_free : Free 0 (2 * most) floats₀ floats

-- "Residuals start as z", or as what stands in their place
pub beginning : {a : Shape} {most : ℕ} {xs ys qs : List ℕ} {whole : List ℤ} {floats : List Float} → Levelable a (survey_at xs ys qs (3 * most) whole) most (length whole) (length floats)
    → Passing a (survey_at xs ys qs (3 * most) whole) most 0 whole whole floats floats
unfolding first_of residuals
beginning {most = most} {xs = xs} p = record {
  within = omega arith;
  before = record { residuals_there = record { is = refl; ranged = λ i h. (p.placed i h).z_size }; running_before = λ j e. absurd (none_before e) };
  passed = refl;
  whole_free = free_between 0 (3 * most + length xs) (omega (arith, p)) refl refl refl;
  floats_free = free_between 0 (2 * most) (omega (arith, p)) refl refl refl;
}
  where
    none_before : {j : ℕ} → zero ≡ suc j → ⊥
    none_before e = omega arith

module _ {a : Shape} {s : Survey} {most k : ℕ} {whole₀ whole : List ℤ} {floats₀ floats : List Float}
    (l : Levelable a s most (length whole₀) (length floats₀)) (p : Passing a s most k whole₀ whole floats₀ floats) where
  pub whole_long : length whole ≡ length whole₀
  whole_long = free_length p.whole_free (omega (arith, l))

  pub floats_long : length floats ≡ length floats₀
  floats_long = free_length p.floats_free (omega (arith, l))

  pub levelable : Levelable a s most (length whole) (length floats)
  levelable = rw (whole_long, floats_long) l

  module _ {found : Check} {now : List ℤ} (j : WholeLevel a s most k found now) (h : k ≤ a.h) where
    pub passing : {sums : List Float} → found ≡ none → Free 0 (3 * most + point_count s) whole now → Free 0 (2 * most) floats sums → Passing a s most (k + 1) whole₀ now floats₀ sums
    unfolding first_of
    passing e f g =
        rw (add-one k)
        (record {
          within = omega arith;
          before = j.leaves e;
          passed = then_none _ _ p.passed ∙ sym j.is ∙ e;
          whole_free = free_again (omega (arith, l)) p.whole_free f;
          floats_free = free_again (omega (arith, l)) p.floats_free g;
        })

    pub levels_refused : {r : Refusal} → found ≡ some r → Levelled a s most (some r) now
    unfolding levels_check
    levels_refused {r} e = judged_refused (first_of_at (a.h + 1) k (level_check a s) r p.passed (omega arith) (sym j.is ∙ e))

  pub levels_done : a.h < k → Levelled a s most none whole
  unfolding levels_check K
  levels_done h =
      let last : k ≡ a.h + 1 = omega (arith, p.within) in
      record {
        is = sym (rw last at p.passed);
        leaves = λ _. record {
          lattice_is = ap (λ c. area (a.h % 2 * most) c whole) l.most_is ∙ (p.before.running_before a.h (omega arith)).is;
          lattice_ranged = rw l.most_is (p.before.running_before a.h (omega arith)).ranged;
          residuals_are = rw last at p.before.residuals_there.is;
        };
      }
