-- Each record is laid where those before it end.
use Rattle.std.proofs.Common.{◌≡◌, sym, ap, ap₂, ◌∙◌, List, ℕ, ◌+◌, ◌*◌, ◌^◌, ◌<◌, ◌≤◌, ℤ, pos, length, get_or, take-append-drop, add-one, arith}
use Rattle.std.specs.Int.Signed.{mag}
use Rattle.algebra.specs.Table.{joined, laid, laid_after}
use Rattle.machine.specs.Tests.{plain}
use Rattle.rules.specs.Fit.{Survey, point_at}
use Rattle.rules.specs.PointFile.{pq, point_record}
use Rattle.rules.specs.Laws.PointFields.{record_of}
use Rattle.rules.proofs.Laws.PointFields.{length_records}
use Rattle.survey.specs.Survey.{survey_of}
use Rattle.point_writer.proofs.put_points.Goals as goal

-- one record more; v is the height as it is handed on
next : (s : Survey) (i : ℕ) (d : List ℕ) {v : ℤ} {before after : List ℕ} → 8 ≤ length d → v ≡ (point_at s i).z
    → before ≡ laid 8 (joined i (record_of pq s)) d
    → after ≡ laid (8 + 15 * i) (point_record pq (record { x = (point_at s i).x; y = (point_at s i).y; z = v; q = (point_at s i).q })) before
    → after ≡ laid 8 (joined (i + 1) (record_of pq s)) d
unfolding joined
next s i d h is e₁ e₂ =
    e₂
    ∙ ap₂ (λ v l. laid (8 + 15 * i) (point_record pq (record { x = (point_at s i).x; y = (point_at s i).y; z = v; q = (point_at s i).q })) l) is e₁
    ∙ laid_after 8 (8 + 15 * i) (joined i (record_of pq s)) (record_of pq s i) d h (omega (arith, length_records pq s i))
    ∙ ap (λ k. laid 8 (joined k (record_of pq s)) d) (sym (add-one i))

pub loop-i-init : goal.loop-i-init
unfolding joined laid
loop-i-init c = sym (take-append-drop 8 _)

pub loop-i-preserved : goal.loop-i-preserved
loop-i-preserved c =
    let p = c.args.points.now in
    let fits : mag (get_or p.zs.now c.loop-i.i (pos 0)) < 2 ^ 63 = omega arith in
    next (survey_of p) c.loop-i.i _ (omega arith) (plain _ fits) c.loop-i.invariant c.put_point.ensures
