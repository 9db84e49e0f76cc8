-- No value before q is refused, and those values stand in the level.
use Rattle.std.proofs.Common.{◌≡◌, ℕ, List, length, ℤ}
use Rattle.std.specs.Prelude.{Float}
use Rattle.std.proofs.Math.Option.{none}
use Rattle.algebra.specs.Table.{tabulate, over}
use Rattle.rules.specs.Answers as answer
use Rattle.rules.specs.Fit.{present, or_zero}
use Rattle.level_values.specs.Values.{settled_at}
use Rattle.level_values.proofs.settle_all.Given as goal

module _ (count : ℕ) (sums : List Float) where
  -- one value's check
  abbrev pub check : answer.Refusal → ℕ → answer.Check
  check r q = answer.require (present (settled_at count sums q)) r

  abbrev pub value : ℕ → ℤ
  value q = or_zero (settled_at count sums q)

-- no value before q is refused, and they stand in the level
pub record Passed (count : ℕ) (sums : List Float) (before : List ℤ) (q : ℕ) (level : List ℤ) : Type 0 where
  pub kept : length level ≡ length before
  pub none_refused : (r : answer.Refusal) → answer.first_of q (check count sums r) ≡ none
  pub written : level ≡ over (tabulate q (value count sums)) before

abbrev pub invariant-loop-q : goal.invariant-loop-q
invariant-loop-q l = Passed l.count l.sums l.initial.level l.q l.level
