-- What a refusal tells: whether the levels of a fit had begun, and which figure left its range.
use Rattle.std.specs.Prelude.{◌≡◌, refl, true, false, List, ℕ, suc, ◌+◌, ◌≤◌, ℤ, length}
use Rattle.std.proofs.Math.Path.{sym, ap, subst}
use Rattle.std.proofs.Common.{◌∙◌, arith}
use Rattle.std.proofs.Math.Logic.{⊎_elim, inl, inr}
use Rattle.std.proofs.Math.Option.{Option, none, some}
use Rattle.rules.specs.Grid.{controls}
use Rattle.rules.specs.Fit.{Shape, columns, rows, Survey, point_count, differences, from_base, residuals, running, single_lattice}
use Rattle.rules.specs.Fit.{present, quotient_check, residual_check, sum_check, level_check, levels_check, difference_check, final_check, in_levels_check}
use Rattle.rules.specs.Answers.{Refusal, confidence, difference, quotient, residual, sum, number, place, in_levels, Check, require, ◌then◌}
use Rattle.rules.specs.Calls.{Lent, survey_check, cells_check, h_check, lists_check, room_check, lent_check, spot_check, point_check, points_check, fit_check, lattice_check, refine_check}
use Rattle.rules.proofs.Laws.Checks.{then_none, then_some, then_refusal, then_assoc, require_refusal, first_of_none, first_of_all, first_of_at, first_of_only, first_of_refusal}
use Rattle.rules.specs.Laws.Checks.{Only}
use Rattle.rules.proofs.Laws.Checks.{only_require, only_then, only_first_of, only_range_check, early_number}
use Rattle.rules.proofs.Laws.Checks.{range_check_size, size_range_check, range_check_refusal, first_out_at}
use Rattle.rules.specs.Laws.Refused.{DifferenceOut, Reached, QuotientOut, ResidualOut, SumOut, FinalOut, WhichFigure}

-- ---- before the levels, or in them

module _ (a : Shape) (s : Survey) (l : Lent) where
  -- the checks before the levels
  abbrev pub early_check : Check
  early_check = survey_check a s then lent_check a (point_count s) l then points_check 16 (columns a a.h) (rows a a.h) s then difference_check s.zs

  -- a fit's check is these, and then that of the levels' figures
  pub grouped : fit_check a s l ≡ (early_check then in_levels_check a s)
  unfolding fit_check
  grouped =
      let room = lent_check a (point_count s) l in
      sym (then_assoc _ _ _ ∙ ap (λ c. survey_check a s then c) (then_assoc _ _ _ ∙ ap (λ c. room then c) (then_assoc _ _ _)))

  -- what is true of 1 to 6, of 17 and of 15 is true of whatever these refuse by
  early : {P : Refusal → Type 0} → ((r : Refusal) → number r ≤ 6 → P r) → ((i : ℕ) → P (confidence i)) → Only P (difference_check s.zs) → Only P early_check
  unfolding survey_check cells_check h_check lists_check lent_check room_check points_check point_check spot_check
  early p q d =
      only_then (only_then (only_require _ _ (p _ (omega arith))) (only_then (only_require _ _ (p _ (omega arith))) (only_require _ _ (p _ (omega arith)))))
      (only_then (only_require _ _ (p _ (omega arith)))
      (only_then
      (only_first_of (point_count s) _ (λ i.
      only_then (only_then (only_require _ _ (p _ (omega arith))) (only_require _ _ (p _ (omega arith)))) (only_require _ _ (q i))))
      d))

  -- none of them refuses as a level does
  pub early_only : Only (λ r. in_levels r ≡ false) early_check
  unfolding difference_check
  early_only = early early_number (λ i. refl) (only_range_check _ _ _ (λ i. refl))

-- the levels refuse in no other way
levels_only : (a : Shape) (s : Survey) → Only (λ r. in_levels r ≡ true) (levels_check a s)
unfolding levels_check level_check quotient_check residual_check sum_check
levels_only a s =
    only_first_of (a.h + 1) _ (λ k.
    only_then (only_first_of _ _ (λ q. only_require _ _ refl)) (only_then (only_range_check _ _ _ (λ i. refl)) (only_range_check _ _ _ (λ i. refl))))

-- nor does the final sum
pub in_levels_only : (a : Shape) (s : Survey) → Only (λ r. in_levels r ≡ true) (in_levels_check a s)
unfolding in_levels_check final_check
in_levels_only a s = only_then (levels_only a (from_base s)) (only_range_check _ _ _ (λ q. refl))

-- "Refine never gives 7", nor 13 or 14
pub refine_only : (m n : ℕ) (lattice output : List ℤ) → Only (λ r. in_levels r ≡ false) (refine_check m n lattice output)
unfolding refine_check cells_check lattice_check
refine_only m n lattice output = only_then (only_require _ _ refl) (only_then (only_require _ _ refl) (only_range_check _ _ _ (λ i. refl)))

absent : (v : Option ℤ) → present v ≡ false → v ≡ none
unfolding present
absent none e = refl
absent (some z) e = let n : some z ≡ none = cc in n

absent_refused : (v : Option ℤ) (r : Refusal) → v ≡ none → require (present v) r ≡ some r
unfolding require present
absent_refused v r e = rw e refl

module _ (a : Shape) (s : Survey) where
  -- the survey of the levels
  abbrev d : Survey
  d = from_base s

  -- what a refusal tells by its number and its place
  abbrev Tells : Refusal → Type 0
  Tells r = WhichFigure a s (number r) (place r)

  module _ (k : ℕ) (reached : Reached a d k) (r : Refusal) where
    quotient_tells : quotient_check a d k ≡ some r → Tells r
    unfolding quotient_check
    quotient_tells e =
        let q = first_of_refusal (controls (columns a k) (rows a k)) _ r e in
        let here = require_refusal _ (quotient k) r q.refuses in
        let out : QuotientOut a d k = record { reached = reached; at = q.at; stored = q.below; no_value = absent _ here.0 } in
        subst Tells here.1 (record { by_15 = λ n. absurd (omega arith); by_7 = λ n. out; by_13 = λ n. absurd (omega arith); by_14 = λ n. absurd (omega arith) })

    residual_tells : quotient_check a d k ≡ none → residual_check a d k ≡ some r → Tells r
    unfolding residual_check
    residual_tells quotients e =
        let q = range_check_refusal (point_count s) (residuals a d (suc k)) (λ i. residual k) r e in
        let out : ResidualOut a d k = record { reached = reached; quotients = quotients; point = q.0; listed = q.1; out = q.2 } in
        subst Tells q.3 (record { by_15 = λ n. absurd (omega arith); by_7 = λ n. absurd (omega arith); by_13 = λ n. out; by_14 = λ n. absurd (omega arith) })

    sum_tells : quotient_check a d k ≡ none → residual_check a d k ≡ none → sum_check a d k ≡ some r → Tells r
    unfolding residual_check sum_check
    sum_tells quotients residuals_fine e =
        let q = range_check_refusal (controls (columns a k) (rows a k)) (running a d k) (λ q. sum k) r e in
        let fine = range_check_size (point_count s) (residuals a d (suc k)) (λ i. residual k) residuals_fine in
        let out : SumOut a d k = record { reached = reached; quotients = quotients; residuals_in = fine; at = q.0; stored = q.1; out = q.2 } in
        subst Tells q.3 (record { by_15 = λ n. absurd (omega arith); by_7 = λ n. absurd (omega arith); by_13 = λ n. absurd (omega arith); by_14 = λ n. inl out })

  levels_tell : (r : Refusal) → levels_check a d ≡ some r → Tells r
  unfolding levels_check level_check
  levels_tell r e =
      let l = first_of_refusal (a.h + 1) (level_check a d) r e in
      let k = l.at in
      let reached : Reached a d k = record { of_fit = omega (arith, l.below); before = first_of_none k (level_check a d) l.none_before } in
      ⊎_elim (quotient_tells k reached r)
      (λ rest.
      ⊎_elim (residual_tells k reached r rest.0) (λ last. sum_tells k reached r rest.0 last.0 last.1)
      (then_refusal (residual_check a d k) (sum_check a d k) r rest.1))
      (then_refusal (quotient_check a d k) _ r l.refuses)

  final_tells : (r : Refusal) → levels_check a d ≡ none → final_check a s ≡ some r → Tells r
  unfolding final_check
  final_tells r levels_in e =
      let q = range_check_refusal (controls (columns a a.h) (rows a a.h)) (single_lattice a s) (λ q. sum a.h) r e in
      let out : FinalOut a s a.h = record { last = refl; levels_in = levels_in; at = q.0; stored = q.1; out = q.2 } in
      subst Tells q.3 (record { by_15 = λ n. absurd (omega arith); by_7 = λ n. absurd (omega arith); by_13 = λ n. absurd (omega arith); by_14 = λ n. inr out })

  difference_tells : Only Tells (difference_check s.zs)
  unfolding difference_check
  difference_tells = record { only = tells }
    where
      tells : (r : Refusal) → difference_check s.zs ≡ some r → Tells r
      tells r e =
          let q = range_check_refusal (length s.zs) (differences s.zs) difference r e in
          let out : DifferenceOut s.zs q.0 = record { listed = q.1; out = q.2 } in
          subst Tells q.3 (record { by_15 = λ n. out; by_7 = λ n. absurd (omega arith); by_13 = λ n. absurd (omega arith); by_14 = λ n. absurd (omega arith) })

  -- 1 to 6 and 17 tell of what was lent, and of no such figure
  given_tells : (r : Refusal) → number r ≤ 6 → Tells r
  given_tells r l =
      record { by_15 = λ n. absurd (omega arith); by_7 = λ n. absurd (omega arith); by_13 = λ n. absurd (omega arith); by_14 = λ n. absurd (omega arith) }

  confidence_tells : (i : ℕ) → Tells (confidence i)
  confidence_tells i =
      record { by_15 = λ n. absurd (omega arith); by_7 = λ n. absurd (omega arith); by_13 = λ n. absurd (omega arith); by_14 = λ n. absurd (omega arith) }

  pub which_figure : (l : Lent) (r : Refusal) → fit_check a s l ≡ some r → WhichFigure a s (number r) (place r)
  unfolding in_levels_check
  which_figure l r e =
      ⊎_elim ((early a s l given_tells confidence_tells difference_tells).only r)
      (λ rest. ⊎_elim (levels_tell r) (λ last. final_tells r last.0 last.1) (then_refusal (levels_check a d) (final_check a s) r rest.1))
      (then_refusal (early_check a s l) (in_levels_check a s) r (sym (grouped a s l) ∙ e))

  -- and a figure out of range, where nothing that is checked before it is refused, is the one that is told
  module _ (l : Lent) where
    pub difference_told : (i : ℕ) → survey_check a s ≡ none → lent_check a (point_count s) l ≡ none → points_check 16 (columns a a.h) (rows a a.h) s ≡ none
        → DifferenceOut s.zs i → fit_check a s l ≡ some (difference i)
    unfolding fit_check difference_check
    difference_told i head room points o =
        then_none _ _ head
        ∙ then_none _ _ room
        ∙ then_none _ _ points
        ∙ then_some _ _ (first_out_at (length s.zs) i (differences s.zs) o.listed o.out difference)

    module _ (early : early_check a s l ≡ none) (k : ℕ) where
      in_levels_told : {r : Refusal} → in_levels_check a s ≡ some r → fit_check a s l ≡ some r
      in_levels_told e = grouped a s l ∙ then_none _ _ early ∙ e

      level_refuses : {r : Refusal} → Reached a d k → level_check a d k ≡ some r → fit_check a s l ≡ some r
      unfolding in_levels_check levels_check
      level_refuses {r} p e =
          in_levels_told (then_some _ _ (first_of_at (a.h + 1) k (level_check a d) r (first_of_all k (level_check a d) p.before) (omega (arith, p.of_fit)) e))

      pub quotient_told : QuotientOut a d k → fit_check a s l ≡ some (quotient k)
      unfolding level_check quotient_check
      quotient_told o =
          level_refuses o.reached (then_some _ _ (first_of_only o.at _ _ (λ q. only_require _ _ refl) o.stored (absent_refused _ (quotient k) o.no_value)))

      pub residual_told : ResidualOut a d k → fit_check a s l ≡ some (residual k)
      unfolding level_check residual_check
      residual_told o =
          level_refuses o.reached (then_none _ _ o.quotients ∙ then_some _ _ (first_out_at (point_count s) o.point (residuals a d (suc k)) o.listed o.out _))

      pub sum_told : SumOut a d k → fit_check a s l ≡ some (sum k)
      unfolding level_check residual_check sum_check
      sum_told o =
          let fine = size_range_check (point_count s) (residuals a d (suc k)) (λ i. residual k) o.residuals_in in
          let out = first_out_at (controls (columns a k) (rows a k)) o.at (running a d k) o.stored o.out (λ q. sum k) in
          level_refuses o.reached (then_none _ _ o.quotients ∙ then_none _ _ fine ∙ out)

      pub final_told : FinalOut a s k → fit_check a s l ≡ some (sum k)
      unfolding in_levels_check final_check
      final_told o =
          rw (← o.last)
          (in_levels_told
          (then_none _ _ o.levels_in
          ∙ first_out_at (controls (columns a a.h) (rows a a.h)) o.at (single_lattice a s) o.stored o.out (λ q. sum a.h)))
