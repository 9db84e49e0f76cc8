-- The sums are cleared, and each turn adds one point's part.
use Rattle.std.proofs.Common.{◌≡◌, ℕ, ◌+◌, ◌*◌, ◌^◌, ◌≤◌, List, ◌++◌, length, get_or, take, drop, ℤ, pos, sym, ap, ◌∙◌, add-one, length-take-le, arith}
use Rattle.std.specs.Prelude.{Float}
use Rattle.std.proofs.Math.ListN.{replicate}
use Rattle.algebra.specs.Table.{tabulate, over, over_length, length_tabulate, tabulate_replicate}
use Rattle.machine.specs.Tests.{plain}
use Rattle.rules.specs.Grid.{controls}
use Rattle.rules.specs.Level as rule
use Rattle.rules.specs.Fit.{Survey, point_count, point_at, points_of}
use Rattle.rules.specs.Laws.Passed.{Gridded}
use Rattle.survey.specs.Survey.{survey_of}
use Rattle.level_sums.specs.Gathered.{point_added}
use Rattle.level_sums.proofs.Scatter.{none_gathered, one_more}
use Rattle.level_sums.proofs.gather.Invariants.{first}
use Rattle.level_sums.proofs.gather.Goals as goal

module _ (m n e : ℕ) (s : Survey) (d : List Float) (long : 2 * controls m n ≤ length d) where
  -- cleared sums are those of no points
  cleared : {k : ℕ} {new : List Float} → k ≡ 2 * controls m n → new ≡ replicate (length (take k d)) rule.zero64 → new ++ drop k d ≡ first m n e s 0 d
  unfolding tabulate
  cleared {k} {new} many is =
      ap (λ r. r ++ drop k d) (is ∙ ap (λ i. replicate i rule.zero64) (length-take-le k d (rw many long)) ∙ sym (tabulate_replicate k rule.zero64))
      ∙ sym (over_length k (tabulate k (λ _. rule.zero64)) d (length_tabulate k _))
      ∙ ap (λ r. over r d) (ap (λ i. tabulate i (λ _. rule.zero64)) many ∙ none_gathered (2 ^ e) m n)

  next : (i : ℕ) {sums now : List Float} {v : ℤ} → Gridded m n e → sums ≡ first m n e s i d → v ≡ (point_at s i).z
      → now ≡ point_added (2 ^ e) m n (record { x = (point_at s i).x; y = (point_at s i).y; z = v; q = (point_at s i).q }) sums → now ≡ first m n e s (i + 1) d
  unfolding tabulate
  next i grid is z g = rw (g, is, z, add-one i) (one_more (2 ^ e) m n (tabulate i (point_at s)) (point_at s i) d grid.m_some grid.n_some long)

pub loop-i-init : goal.loop-i-init
loop-i-init c =
    let g = c.args.grid in
    cleared g.cells.m g.cells.n g.e (survey_of c.args.points.now) c.args.sums.now c.requires.room (ap (λ k. 2 * k) c.controls.ensures) (c.fill.ensures.after (λ y e. e))

pub loop-i-preserved : goal.loop-i-preserved
loop-i-preserved c =
    let p = c.args.points.now in
    let g = c.args.grid in
    next g.cells.m g.cells.n g.e (survey_of p) c.args.sums.now c.requires.room c.loop-i.i g.gridded c.loop-i.invariant (plain (get_or p.zs.now c.loop-i.i (pos 0)) (omega arith)) c.add_point.ensures

pub returns : goal.returns
unfolding points_of
returns c =
    let points = survey_of c.args.points.now in
    let all : c.loop-i.i ≡ point_count points = omega arith in
    rw all at c.loop-i.invariant
