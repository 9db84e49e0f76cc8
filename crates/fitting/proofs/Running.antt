-- What the levels leave, with the base in its lattice and once it is cleared, is the rules' end of the fit.
use Rattle.std.proofs.Common.{◌≡◌, sym, ap, ap₂, ◌∙◌, Bool, true, false, List, ◌++◌, ℕ, ◌+◌, ◌-◌, ◌*◌, ◌%◌, ◌≤◌, arith, ℤ, pos, neg_ℤ, ◌-ℤ◌, length, take, drop, replicate, length-take, length-drop}
use Rattle.std.proofs.Math.IntN.{+ℤ_idl}
use Rattle.std.proofs.lemmas.List.{length-replicate}
use Rattle.std.specs.Float.Ieee.{Float}
use Rattle.std.proofs.Math.Option.{none, some}
use Rattle.algebra.specs.Table.{Free, over, laid, area, length_area, area_part, laid_part, area_laid, over_past, free_length, free_drop}
use Rattle.rules.specs.Grid.{cells_at}
use Rattle.rules.specs.Level.{zero64}
use Rattle.rules.specs.Fit.{Shape, columns, rows, Survey, survey, base, shifted, differences, from_base, single_lattice, last_residuals, final_check, in_levels_check}
use Rattle.rules.specs.Answers.{Refusal, sum, Check, range_check, accepted, refused, outcome}
use Rattle.rules.specs.Calls.{lent, K, results, cleared, fit_end}
use Rattle.rules.proofs.Laws.Base.{length_differences}
use Rattle.rules.specs.Laws.Checks.{AllInRange}
use Rattle.rules.proofs.Laws.Checks.{then_none, then_some}
use Rattle.rules.proofs.Laws.Refused.{in_levels_only}
use Rattle.answers.specs.Cause.{ok_check}
use Rattle.scratch.specs.Scratch.{Levelable, survey_at, Levelled, area_within}

-- ---- the differences, where the residuals start

-- what `shift` writes there, by x, which is 0 less the base
pub less_base : (zs d : List ℤ) {x : ℤ} {part : List ℤ} → x ≡ pos 0 -ℤ base zs → part ≡ over (shifted x zs) d → part ≡ over (differences zs) d
unfolding differences
less_base zs d x_is e = e ∙ ap (λ y. over (shifted y zs) d) (x_is ∙ +ℤ_idl (neg_ℤ (base zs)))

-- there is room for them
pub differences_fit : {a : Shape} {xs ys qs : List ℕ} {most F n : ℕ} (zs whole : List ℤ) → Levelable a (from_base (survey xs ys zs qs)) most (length whole) F → n ≡ length xs
    → length zs ≤ length (take (3 * most + n - 3 * most) (drop (3 * most) whole))
differences_fit zs whole p n_is = simp (length-take, length-drop) (omega (arith, p, length_differences zs, p.surveyed.as_many_z))

module _ {a : Shape} {xs ys qs : List ℕ} {most F : ℕ} (zs whole : List ℤ) (p : Levelable a (from_base (survey xs ys zs qs)) most (length whole) F) {n : ℕ} (n_is : n ≡ length xs)
    {part : List ℤ} (written : part ≡ over (differences zs) (take (3 * most + n - 3 * most) (drop (3 * most) whole))) where
  abbrev many : ℕ
  many = length xs

  abbrev started : List ℤ
  started = take (3 * most) whole ++ (part ++ drop (3 * most + n - 3 * most) (drop (3 * most) whole))

  differences_laid : started ≡ laid (3 * most) (differences zs) whole
  differences_laid =
      ap (λ v. take (3 * most) whole ++ (v ++ drop (3 * most + n - 3 * most) (drop (3 * most) whole))) written
      ∙ laid_part (3 * most) (3 * most + n - 3 * most) (differences zs) whole (omega (arith, p.surveyed.as_many_z)) (omega (arith, p))

  free : Free (3 * most) many whole started
  free = record { values = differences zs; as_many = p.surveyed.as_many_z; is = differences_laid }

  started_long : length started ≡ length whole
  started_long = free_length free p.whole_room

  differences_there : area (3 * most) many started ≡ differences zs
  differences_there = ap (area (3 * most) many) differences_laid ∙ area_laid (3 * most) many (differences zs) whole p.surveyed.as_many_z (omega (arith, p))

  pub levelable : Levelable a (survey_at xs ys qs (3 * most) started) most (length started) F
  levelable = rw (differences_there, started_long) p

  -- ---- what the levels leave

  module _ {found : Check} {now : List ℤ} (d : Levelled a (survey_at xs ys qs (3 * most) started) most found now) (changed : Free 0 (3 * most + many) started now) where
    abbrev s : Survey
    s = survey xs ys zs qs

    done : Levelled a (from_base s) most found now
    done = rw differences_there at d

    now_long : length now ≡ length whole
    now_long = free_length changed (omega (arith, started_long, p)) ∙ started_long

    pub whole_room : 3 * most + many ≤ length now
    whole_room = omega (arith, now_long, p)

    -- the area of the last running lattice
    abbrev at : ℕ
    at = a.h % 2 * most

    at_within : at ≤ most
    at_within = area_within a.h most

    pub lattice_ranged : found ≡ none → AllInRange most (area at most now)
    lattice_ranged fine = rw (done.leaves fine).lattice_is (done.leaves fine).lattice_ranged

    pub lattice_room : at + most ≤ length now
    lattice_room = omega (arith, at_within, whole_room)

    module _ (floats : List Float) {sums : List Float} (summed : Free 0 (2 * most) floats sums) (room : 2 * most ≤ length floats) (lattice residual : List ℤ) where
      past : drop (3 * K a + many) now ≡ drop (3 * K a + many) whole
      past =
          rw (← p.most_is)
          (free_drop changed (omega (arith, started_long, p)) (3 * most + many) (omega arith)
          ∙ free_drop free p.whole_room (3 * most + many) (omega arith))

      floats_past : drop (2 * K a) sums ≡ drop (2 * K a) floats
      floats_past = rw (← p.most_is) (free_drop summed (omega arith) (2 * most) (omega arith))

      scratch_cleared : (l r : List ℤ) → cleared a many (lent l r now sums) ≡ cleared a many (lent l r whole floats)
      unfolding cleared
      scratch_cleared l r =
          ap₂ (λ w f. lent l r w f)
          (over_past (replicate (3 * K a + many) (pos 0)) now whole (rw (length-replicate (3 * K a + many) (pos 0)) past))
          (over_past (replicate (2 * K a) zero64) sums floats (rw (length-replicate (2 * K a) zero64) floats_past))

      refused_with : {r : Refusal} → in_levels_check a s ≡ some r
          → outcome (refused r) (cleared a many (lent lattice residual now sums)) ≡ fit_end a s (lent lattice residual whole floats) (in_levels_check a s)
      unfolding fit_end
      refused_with {r} e = rw (e, (in_levels_only a s).only r e, scratch_cleared lattice residual)

      pub run_refused : {r : Refusal} → found ≡ some r
          → outcome (refused r) (cleared a many (lent lattice residual now sums)) ≡ fit_end a s (lent lattice residual whole floats) (in_levels_check a s)
      unfolding in_levels_check
      run_refused e = refused_with (then_some _ _ (sym done.is ∙ e))

      -- ---- and the base in its lattice

      module _ {b : ℤ} (b_is : b ≡ base zs) (fine : found ≡ none) (ok : Bool)
          (judged : (r : Refusal) → range_check (length (take (at + most - at) (drop at now))) (shifted b (take (at + most - at) (drop at now))) (λ i. r) ≡ ok_check ok r) where
        final_lattice : shifted b (area at most now) ≡ single_lattice a s
        unfolding single_lattice
        final_lattice = ap₂ shifted b_is (done.leaves fine).lattice_is

        found_final : in_levels_check a s ≡ ok_check ok (sum a.h)
        unfolding in_levels_check final_check K
        found_final =
            let part = area_part at most now in
            let long = ap length part ∙ length_area at most now lattice_room ∙ p.most_is in
            then_none _ _ (sym done.is ∙ fine)
            ∙ ap₂ (λ n values. range_check n values (λ q. sum a.h)) (sym long) (sym (ap (shifted b) part ∙ final_lattice))
            ∙ judged (sum a.h)

        pub final_refused : ok ≡ false
            → outcome (refused (sum a.h)) (cleared a many (lent lattice residual now sums)) ≡ fit_end a s (lent lattice residual whole floats) (in_levels_check a s)
        final_refused e = refused_with (found_final ∙ ap (λ ok. ok_check ok (sum a.h)) e)

        pub run_accepted : {m n : ℕ} {l r : List ℤ} → ok ≡ true → m ≡ cells_at a.m0 a.h → n ≡ cells_at a.n0 a.h
            → l ≡ over (shifted b (area at most now)) lattice → r ≡ over (area (3 * most) many now) residual
            → outcome (accepted (record { m = m; n = n })) (cleared a many (lent l r now sums)) ≡ fit_end a s (lent lattice residual whole floats) (in_levels_check a s)
        unfolding fit_end results last_residuals columns rows
        run_accepted {l = l} {r = r} e m_is n_is l_is r_is =
            let passed : in_levels_check a s ≡ none = found_final ∙ ap (λ ok. ok_check ok (sum a.h)) e in
            let lattice_is : l ≡ over (single_lattice a s) lattice = l_is ∙ ap (λ v. over v lattice) final_lattice in
            let residual_is : r ≡ over (last_residuals a s) residual = r_is ∙ ap (λ v. over v residual) (done.leaves fine).residuals_are in
            rw (passed, m_is, n_is, scratch_cleared l r, lattice_is, residual_is)
