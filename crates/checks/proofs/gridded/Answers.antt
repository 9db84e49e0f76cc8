-- Where the cells are not refused, the unit's check is the last. At a listed unit it computes, at any other each of its six tests fails.
use Rattle.std.proofs.Common.{◌≡◌, ℕ, ◌^◌, ◌≤◌, refl, sym, ap, ◌∙◌, arith}
use Rattle.std.proofs.Math.Dec.{lit≤}
use Rattle.std.proofs.Math.Option.{none}
use Rattle.std.proofs.lemmas.Bool.{ne_eqb}
use Rattle.std.proofs.lemmas.Result.{err_from_is_err_and}
use Rattle.rules.specs.Answers.{require}
use Rattle.rules.specs.Calls.{cells_check, unit_check}
use Rattle.rules.specs.Laws.Passed.{Gridded}
use Rattle.rules.proofs.Laws.Checks.{then_some, then_none}
use Rattle.rules.proofs.Laws.Passed.{cells_gridded}
use Rattle.checks.specs.Ready.{grid_check}
use Rattle.checks.specs.Passed.{tells_grid, tells_refusal}
use Rattle.checks.proofs.gridded.Goals as goal
use Rattle.checks.proofs.gridded.Goals.{Joined-unit, in-16, in-32, in-64, in-128, in-256, in-512}

-- ---- a listed unit

record Listed (U e : ℕ) : Type 0 where
  unit_is : U ≡ 2 ^ e
  most : e ≤ 9
  passes : unit_check U ≡ none

-- at the arm of the unit v, which is 2^k
arm : (v k : ℕ) → v ≡ 2 ^ k → k ≤ 9 → unit_check v ≡ none → {U e : ℕ} → U ≡ v → e ≡ k → Listed U e
arm v k p h n i j = record { unit_is = i ∙ p ∙ ap (λ k. 2 ^ k) (sym j); most = rw j h; passes = ap unit_check i ∙ n }

module _ (c : Joined-unit) where
  cells : cells_check 512 c.args.m c.args.n ≡ none
  cells = sym c.in_ok-cells.ensures

  listed : Listed c.args.unit c.match-unit.e
  unfolding unit_check require
  listed = elim c.match-unit.branch [
    | in-16 w ↦ arm 16 4 refl (lit≤ tt) refl w.in-16.is w.e-is
    | in-32 w ↦ arm 32 5 refl (lit≤ tt) refl w.in-32.is w.e-is
    | in-64 w ↦ arm 64 6 refl (lit≤ tt) refl w.in-64.is w.e-is
    | in-128 w ↦ arm 128 7 refl (lit≤ tt) refl w.in-128.is w.e-is
    | in-256 w ↦ arm 256 8 refl (lit≤ tt) refl w.in-256.is w.e-is
    | in-512 w ↦ arm 512 9 refl (lit≤ tt) refl w.in-512.is w.e-is
  ]

  gridded : Gridded c.args.m c.args.n c.match-unit.e
  gridded = cells_gridded cells listed.most

-- ---- the answers

pub returns-in_err-cells : goal.returns-in_err-cells
unfolding grid_check
returns-in_err-cells c =
    let p = err_from_is_err_and c.from_residual.result c.from_residual.ensures.1 in
    rw (p.1, p.2) (tells_refusal (then_some _ _ (sym c.in_err-cells.ensures)))

pub returns-in_default : goal.returns-in_default
unfolding grid_check unit_check require
returns-in_default c =
    let u = c.args.unit in
    let other = λ (v : ℕ) (n : u ≡ v → ⊥). ne_eqb u v n in
    tells_refusal (then_none _ _ (sym c.in_ok-cells.ensures) ∙ simp (other 16 (omega arith), other 32 (omega arith), other 64 (omega arith), other 128 (omega arith), other 256 (omega arith), other 512 (omega arith)))

pub invariant_of-result : goal.invariant_of-result
invariant_of-result c = let g = gridded ((goal.at.invariant_of-result c).Joined-unit) in record { few = (g.m_most, g.n_most) }

pub invariant_of-result-2 : goal.invariant_of-result-2
invariant_of-result-2 c = record { gridded = gridded ((goal.at.invariant_of-result-2 c).Joined-unit) }

pub returns : goal.returns
unfolding grid_check
returns c =
    let p = (goal.at.returns c).Joined-unit in
    tells_grid (then_none _ _ (cells p) ∙ (listed p).passes) (record { m_is = refl; n_is = refl; unit_is = (listed p).unit_is; holds = gridded p })
