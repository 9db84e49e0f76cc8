-- The cell counts' check is that of `cells`, and each later refusal is decided by the test that led to it.
use Rattle.std.proofs.lemmas.Bool.{le-leb, lt-leb, ne_eqb}
use Rattle.std.proofs.Common.{◌≡◌, ◌⊎◌, inl, inr, ℕ, ◌<◌, false, ◌&&◌, eqb, leb, eq-eqb}
use Rattle.std.proofs.lemmas.Result.{err_from_is_err_and}
use Rattle.rules.specs.Answers.{require, ◌then◌}
use Rattle.rules.specs.Calls.{survey_check, h_check, lists_check}
use Rattle.survey.proofs.headed.head.Goals as goal

-- the tests of the lists, in their order
uneven : {x y z q : ℕ}
    → (x ≡ y → ⊥) ⊎ ((x ≡ y) × (x ≡ z → ⊥)) ⊎ ((x ≡ y) × (x ≡ z) × (x ≡ q → ⊥)) ⊎ ((x ≡ y) × (x ≡ z) × (x ≡ q) × (65_535 < x))
    → (eqb x y && eqb x z && eqb x q && leb x 65_535) ≡ false
uneven (inl a) = simp (ne_eqb _ _ a)
uneven (inr (inl h)) = simp (eq-eqb _ _ h.0, ne_eqb _ _ h.1)
uneven (inr (inr (inl h))) = simp (eq-eqb _ _ h.0, eq-eqb _ _ h.1, ne_eqb _ _ h.2)
uneven (inr (inr (inr h))) = simp (eq-eqb _ _ h.0, eq-eqb _ _ h.1, eq-eqb _ _ h.2, lt-leb _ _ h.3)

pub returns-in_err-cells-clause-checked : goal.returns-in_err-cells-clause-checked
unfolding survey_check ◌then◌
returns-in_err-cells-clause-checked c =
    let p = err_from_is_err_and c.from_residual.result c.from_residual.ensures.1 in
    rw (p.1, p.2, ← c.in_err-cells.ensures)

pub returns-then-shape-gt5-clause-checked : goal.returns-then-shape-gt5-clause-checked
unfolding survey_check ◌then◌ h_check require
returns-then-shape-gt5-clause-checked c = simp (← c.in_ok-cells.ensures, lt-leb _ _ c.if-shape-gt5.true)

pub returns-then-xs-ys-clause-checked : goal.returns-then-xs-ys-clause-checked
unfolding survey_check ◌then◌ h_check lists_check require
returns-then-xs-ys-clause-checked c = simp (← c.in_ok-cells.ensures, le-leb _ _ c.if-shape-gt5.false, uneven c.then-xs-ys.either)

pub returns-clause-checked : goal.returns-clause-checked
unfolding survey_check ◌then◌ h_check lists_check require
returns-clause-checked c =
    simp (
      ← c.in_ok-cells.ensures,
      le-leb _ _ c.if-shape-gt5.false,
      eq-eqb _ _ c.if-xs-ys.false,
      eq-eqb _ _ c.if-xs-zs.false,
      eq-eqb _ _ c.if-xs-qs.false,
      le-leb _ _ c.if-xs-gt65535.false,
    )
