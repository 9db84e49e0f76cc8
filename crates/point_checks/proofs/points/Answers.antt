-- Where no confidence is 0, 17 refuses none; else the points up to the first that has one are asked for 5 and 6, and then that one is refused by 17.
use Rattle.std.proofs.Common.{◌≡◌, ℕ, suc, ◌+◌, ◌≤◌, ◌<◌, true, List, length, take, refl, sym, ap, ap₂, ◌∙◌, add-one, arith}
use Rattle.std.proofs.Math.Option.{some}
use Rattle.std.proofs.Math.Seq.{get_or-take, length-take-le}
use Rattle.std.specs.Prelude.{ℤ, pos}
use Rattle.std.proofs.lemmas.Result.{err_from_is_err_and}
use Rattle.rules.specs.Grid.{confident}
use Rattle.rules.specs.Fit.{Survey, point_count, point_at, total}
use Rattle.rules.specs.Answers.{Refusal, confidence, Check, require, ◌then◌, first_of, refused, answer}
use Rattle.rules.specs.Calls.{spot_check, point_check, points_check}
use Rattle.rules.proofs.Laws.Checks.{then_none, then_some, then_pass, then_assoc, first_of_same, first_of_at, first_of_refusal}
use Rattle.survey.specs.Survey.{survey_of}
use Rattle.point_checks.specs.Sure.{FirstUnsure}
use Rattle.point_checks.specs.Spots.{spot_at}
use Rattle.point_checks.specs.Told as points_told
use Rattle.point_checks.proofs.points.Goals as goal

module _ (m n : ℕ) (s : Survey) where
  abbrev checked : ℕ → Check
  checked i = point_check 16 m n i (point_at s i)

  abbrev spot : ℕ → Check
  spot i = spot_check 16 m n i (point_at s i)

  sure_check : (i : ℕ) → confident (point_at s i).q ≡ true → checked i ≡ spot i
  unfolding point_check require
  sure_check i e = rw e (then_pass (spot i))

  all_sure_is : ((i : ℕ) → i < point_count s → confident (point_at s i).q ≡ true) → points_check 16 m n s ≡ first_of (point_count s) spot
  unfolding points_check
  all_sure_is h = first_of_same (point_count s) _ _ (λ i l. sure_check i (h i l))

  module _ (u : ℕ) (f : FirstUnsure u s.qs) (listed : u < point_count s) where
    to_unsure : first_of (suc u) checked ≡ (first_of (suc u) spot then some (confidence u))
    unfolding first_of point_check require
    to_unsure =
        let here : require (confident (point_at s u).q) (confidence u) ≡ some (confidence u) = rw f.there refl in
        ap₂ ◌then◌ (first_of_same u _ _ (λ i l. sure_check i (f.before i l))) (ap (λ c. spot u then c) here) ∙ sym (then_assoc _ _ _)

    -- what is refused among these is what is refused of all
    unsure_is : (r : Refusal) (v : ℤ) → (first_of (suc u) spot then some (confidence u)) ≡ some r → refused r ≡ answer (points_check 16 m n s) v
    unfolding points_check answer
    unsure_is r v e =
        let q = first_of_refusal (suc u) checked r (to_unsure ∙ e) in
        rw (first_of_at (point_count s) q.at checked r q.none_before (omega (arith, q.below)) q.refuses) refl

-- the first e of three lists are asked as they are in the whole lists
taken : (m n e : ℕ) (xs ys : List ℕ) (zs : List ℤ) → first_of e (spot_at m n (take e xs) (take e ys) (take e zs)) ≡ first_of e (spot_at m n xs ys zs)
unfolding spot_check
taken m n e xs ys zs = first_of_same e _ _ (λ i l. rw (get_or-take e xs i 0 l, get_or-take e ys i 0 l, get_or-take e zs i (pos 0) l) refl)

-- what `spots` is asked of the first e points, of lists as long as each other
asked : (m n e : ℕ) (xs ys : List ℕ) (zs : List ℤ) → e ≤ length xs
    → first_of (length (take e xs)) (spot_at m n (take e xs) (take e ys) (take e zs)) ≡ first_of e (spot_at m n xs ys zs)
asked m n e xs ys zs l = ap (λ k. first_of k (spot_at m n (take e xs) (take e ys) (take e zs))) (length-take-le _ _ l) ∙ taken m n e xs ys zs

-- ---- the answers

pub returns-then-all_sure : goal.returns-then-all_sure
unfolding spot_check
returns-then-all_sure c =
    let a = c.args in
    let s = survey_of a.points.now in
    let each : (i : ℕ) → i < point_count s → confident (point_at s i).q ≡ true =
    λ i l. c.if-all_sure.ensures.confident refl i (omega arith) in
    c.spots.ensures ∙ ap (λ k. answer k (total (point_count s) s.zs)) (sym (all_sure_is a.cells.m a.cells.n s each))

pub returns : goal.returns
unfolding spot_check
returns c =
    let a = c.args in
    let u = c.first_unsure-unsure in
    let l = u.ensures.listed in
    let s = survey_of a.points.now in
    let none_placed = (points_told.summed _ _ c.in_ok-spots.ensures refl).0 in
    let known = asked a.cells.m a.cells.n (u.result + 1) s.xs s.ys s.zs (omega arith) in
    unsure_is a.cells.m a.cells.n s u.result u.ensures (omega arith) _ _ (then_none _ _ (ap (λ k. first_of k (spot a.cells.m a.cells.n s)) (sym (add-one u.result)) ∙ sym known ∙ none_placed))

pub returns-in_err-spots : goal.returns-in_err-spots
unfolding spot_check
returns-in_err-spots c =
    let a = c.args in
    let u = c.first_unsure-unsure in
    let l = u.ensures.listed in
    let s = survey_of a.points.now in
    let first_placed = points_told.refused _ _ c.in_err-spots.ensures refl in
    let known = asked a.cells.m a.cells.n (u.result + 1) s.xs s.ys s.zs (omega arith) in
    let p = err_from_is_err_and c.from_residual.result c.from_residual.ensures.1 in
    rw (p.1, p.2)
    (unsure_is a.cells.m a.cells.n s u.result u.ensures (omega arith) _ _ (then_some _ _ (ap (λ k. first_of k (spot a.cells.m a.cells.n s)) (sym (add-one u.result)) ∙ sym known ∙ first_placed)))
