use Rattle.std.proofs.Common.{◌≡◌, ℕ, ◌+◌, ◌*◌, ◌^◌, ◌<◌, List, get_or, ℤ, pos, refl, sym, ap, ◌∙◌, arith, w64, to_z, of_z}
use Rattle.std.specs.Int.Signed.{mag}
use Rattle.algebra.specs.Table.{tabulate, over, over_none, fill_store}
use Rattle.machine.specs.Tests.{plain}
use Rattle.rules.specs.Rounding.{near}
use Rattle.rules.specs.Refinement as rule
use Rattle.rules.proofs.Laws.TwoScale.{finer_at}
use Rattle.refined_rows.proofs.refine_row.Invariants.{value}
use Rattle.refined_rows.proofs.refine_row.Goals as goal

-- what `refined_at` gives, by its place
placed : (sums : List ℤ) (odd c q : ℕ) {v : ℤ} → odd < 2 → q ≡ 2 * c + odd → mag v < 2 ^ 63 → v ≡ near (rule.masked odd (λ s. get_or sums s (pos 0)) c) 64
    → to_z w64 (of_z w64 v) ≡ value sums q
placed sums odd c q {v} h e fits is = plain v fits ∙ is ∙ rw e (ap (λ v. near v 64) (sym (finer_at odd (λ s. get_or sums s (pos 0)) c h)))

pub loop-c-init : goal.loop-c-init
unfolding tabulate
loop-c-init c = sym (over_none c.args.row.now)

pub loop-c-preserved : goal.loop-c-preserved
loop-c-preserved c =
    let l = c.loop-c in
    let i = l.c in
    let sums = c.args.sums.now in
    let f = value sums in
    let d = c.args.row.now in
    let even = placed sums 0 i (2 * i) (omega arith) (omega arith) c.refined_at.type_inv c.refined_at.ensures in
    let odd = placed sums 1 i (2 * i + 1) (omega arith) refl c.refined_at-in-loop-c.type_inv c.refined_at-in-loop-c.ensures in
    let both = fill_store (2 * i + 1) f d (pos 0) (omega arith) (fill_store (2 * i) f d (pos 0) (omega arith) l.invariant even) odd in
    both ∙ ap (λ k. over (tabulate k f) d) (omega arith)

pub returns : goal.returns
returns c =
    let l = c.loop-c in
    let m = c.args.m in
    let sums = c.args.sums.now in
    let f = value sums in
    let d = c.args.row.now in
    let e : 2 * l.c ≡ 2 * m + 2 = omega arith in
    let last = placed sums 0 (m + 1) (2 * m + 2) (omega arith) (omega arith) c.refined_at-2.type_inv c.refined_at-2.ensures in
    fill_store (2 * m + 2) f d (pos 0) (omega arith) (l.invariant ∙ ap (λ k. over (tabulate k f) d) e) last ∙ ap (λ k. over (tabulate k f) d) (omega arith)
