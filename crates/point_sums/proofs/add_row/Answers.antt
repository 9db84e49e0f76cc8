-- The four sums that are put back are those of the pairs that `grown` made.
use Rattle.std.proofs.Common.{◌≡◌, ℕ, ◌≤◌, List, [], ◌∷◌, ◌++◌, length, ap, ◌∙◌, drop_of_length-le, refl, arith}
use Rattle.std.specs.Prelude.{Float}
use Rattle.std.proofs.Math.ListN.{set}
use Rattle.algebra.specs.Table.{tabulate, over, laid_sets, laid_front}
use Rattle.rules.specs.Level as rule
use Rattle.point_sums.proofs.add_row.Goals as goal

-- four stores make a list of four
stored : (l : List Float) (v0 v1 v2 v3 : Float) → length l ≡ 4 → set (set (set (set l 0 v0) 1 v1) 2 v2) 3 v3 ≡ v0 ∷ v1 ∷ v2 ∷ v3 ∷ []
unfolding over
stored l v0 v1 v2 v3 h =
    let few : length l ≤ 4 = omega arith in
    let r : List Float = v0 ∷ v1 ∷ v2 ∷ v3 ∷ [] in
    laid_sets 0 r l (omega arith) ∙ laid_front r l ∙ ap (λ past. r ++ past) (drop_of_length-le l few)

four : (f : ℕ → Float) (l : List Float) {p0 p1 p2 p3 : Float} → length l ≡ 4 → p0 ≡ f 0 → p1 ≡ f 1 → p2 ≡ f 2 → p3 ≡ f 3
    → set (set (set (set l 0 p0) 1 p1) 2 p2) 3 p3 ≡ tabulate 4 f
unfolding tabulate
four f l {p0} {p1} {p2} {p3} h h0 h1 h2 h3 = stored l p0 p1 p2 p3 h ∙ rw (h0, h1, h2, h3) refl

pub returns-clause-first_sums : goal.returns-clause-first_sums
returns-clause-first_sums c =
    let first : rule.Sums → Float = λ v. v.first in
    four _ c.args.first.now c.requires.0 (ap first c.grown-p0.ensures) (ap first c.grown-p1.ensures) (ap first c.grown-p2.ensures) (ap first c.grown-p3.ensures)

pub returns-clause-second_sums : goal.returns-clause-second_sums
returns-clause-second_sums c =
    let second : rule.Sums → Float = λ v. v.second in
    four _ c.args.second.now c.requires.1 (ap second c.grown-p0.ensures) (ap second c.grown-p1.ensures) (ap second c.grown-p2.ensures) (ap second c.grown-p3.ensures)
