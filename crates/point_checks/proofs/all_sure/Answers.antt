use Rattle.std.proofs.Common.{◌≡◌, not, ◌&&◌, eqb, length, get_or, T, refl, sym, ap, subst, ◌∙◌, add-one, arith}
use Rattle.rules.proofs.Laws.Checks.{byte_sure}
use Rattle.point_checks.specs.Sure.{all_sure, each_sure}
use Rattle.point_checks.proofs.all_sure.Goals as goal

pub loop-q-init : goal.loop-q-init
unfolding all_sure
loop-q-init c = refl

pub loop-q-preserved : goal.loop-q-preserved
unfolding all_sure
loop-q-preserved c =
    let l = c.loop-q in
    rw (add-one l.q-index) (ap (λ b. b && not (eqb (get_or c.args.qs.now l.q-index 0) 0)) l.invariant)

pub returns-clause-confident : goal.returns-clause-confident
returns-clause-confident c t i l =
    let qs = c.args.qs.now in
    let e : c.loop-q.q-index ≡ length qs = omega arith in
    let all : c.loop-q.sure ≡ all_sure (length qs) qs = c.loop-q.invariant ∙ ap (λ n. all_sure n qs) e in
    byte_sure _ (each_sure (length qs) qs (subst T (sym t ∙ all) tt) i l) (omega (arith, c.type_inv.qs i))
