use Rattle.std.proofs.Common.{◌≡◌, ℕ, ◌+◌, ◌≤◌, ◌<◌, true, false, List, length, length-set, ℤ, pos, refl, sym, ap, subst, ◌∙◌, add-one, arith}
use Rattle.std.specs.Prelude.{Float}
use Rattle.std.proofs.Math.Option.{none, some}
use Rattle.std.proofs.Math.ListN.{set}
use Rattle.algebra.specs.Table.{tabulate, over, Free, length_tabulate, over_none, fill_store, free_over}
use Rattle.machine.specs.Tests.{plain}
use Rattle.rules.specs.Answers as answer
use Rattle.rules.specs.Fit.{present, or_zero}
use Rattle.rules.specs.Level as rule
use Rattle.rules.proofs.Laws.Checks.{then_none, first_of_at}
use Rattle.float_near.specs.Settled.{settled_value}
use Rattle.point_sums.specs.Sums.{pair_at}
use Rattle.level_values.specs.Values.{settled_at, SettledAll}
use Rattle.level_values.proofs.settle_all.Invariants.{check, value, Passed}
use Rattle.level_values.proofs.settle_all.Goals as goal
use Rattle.level_values.proofs.settle_all.Goals.{After-settle}

module _ {count : ℕ} {sums : List Float} {before : List ℤ} {q : ℕ} {level : List ℤ} (p : Passed count sums before q level) (room : count ≤ length before) where
  one_more : {z : ℤ} → q < count → settled_at count sums q ≡ some z → Passed count sums before (q + 1) (set level q z)
  unfolding answer.first_of answer.require present or_zero
  one_more l e =
      record {
        kept = simp length-set p.kept;
        none_refused = λ r. rw (add-one q) (then_none (answer.first_of q (check count sums r)) (check count sums r q) (p.none_refused r) ∙ rw e);
        written = fill_store q (value count sums) before (pos 0) (omega arith) p.written (sym (ap or_zero e));
      }

  free : q ≤ count → Free 0 count before level
  free most = rw p.written (free_over count (tabulate q (value count sums)) before (rw (length_tabulate q (value count sums)) most) room)

  refused : q < count → settled_at count sums q ≡ none → SettledAll count sums false before level
  unfolding answer.require present
  refused l e = record { found = λ r. first_of_at count q (check count sums r) r (p.none_refused r) l (rw e); is = λ t. absurd t; free = free (omega arith) }

  all_passed : q ≡ count → SettledAll count sums true before level
  all_passed e =
      record { found = λ r. subst (λ q. answer.first_of q (check count sums r) ≡ none) e (p.none_refused r); is = λ t. subst (λ q. level ≡ over (tabulate q (value count sums)) before) e p.written; free = free (omega arith) }

-- what the pair at q settles to
settled_is : (c : After-settle) → settled_value c.settle.result ≡ settled_at c.args.count c.args.sums.now c.loop-q.q
unfolding settled_at pair_at
settled_is c = c.settle.ensures ∙ ap rule.settled c.quotient_of.ensures

pub loop-q-init : goal.loop-q-init
unfolding tabulate answer.first_of
loop-q-init c = record { kept = refl; none_refused = λ r. refl; written = sym (over_none _) }

pub returns-in-None : goal.returns-in-None
returns-in-None c =
    let is = settled_is ((goal.at.returns-in-None c).After-settle) in
    refused c.loop-q.invariant c.requires.1 (omega arith) (sym is ∙ ap settled_value c.in-None.is)

pub loop-q-preserved : goal.loop-q-preserved
loop-q-preserved c =
    let is = settled_is ((goal.at.loop-q-preserved c).After-settle) in
    rw (plain c.in-Some.z (omega arith)) (one_more c.loop-q.invariant c.requires.1 (omega arith) (sym is ∙ ap settled_value c.in-Some.is))

pub returns : goal.returns
returns c = all_passed c.loop-q.invariant c.requires.1 (omega arith)
