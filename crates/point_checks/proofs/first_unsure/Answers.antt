use Rattle.std.proofs.Common.{◌≡◌, ℕ, ◌≤◌, ◌<◌, false, List, length, get_or, T, sym, subst, ◌∙◌, arith}
use Rattle.rules.proofs.Laws.Checks.{byte_sure, zero_unsure}
use Rattle.point_checks.specs.Sure.{all_sure, sure_all}
use Rattle.point_checks.proofs.first_unsure.Goals as goal

-- not all are above 0
not_all : (qs : List ℕ) → all_sure (length qs) qs ≡ false → ((k : ℕ) → k < length qs → 1 ≤ get_or qs k 0) → ⊥
not_all qs e h = subst T (sym (sure_all (length qs) qs h) ∙ e) tt

pub returns-then-q-eq0 : goal.returns-then-q-eq0
returns-then-q-eq0 c =
    record {
      listed = omega arith;
      before = λ k h. byte_sure _ (c.loop-i.invariant k h) (omega (arith, c.type_inv.qs k));
      there = zero_unsure _ c.if-q-eq0.true;
    }

pub returns : goal.returns
returns c = absurd (not_all c.args.qs.now c.requires (λ k h. c.loop-i.invariant k (omega arith)))
