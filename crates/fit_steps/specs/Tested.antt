-- A step that tests each value before it lays it: it is refused at the first that is out of range, and what it did not reach is as it was.
use Rattle.std.specs.Prelude.{◌≡◌, refl, Bool, true, false, not, List, ℕ, ◌+◌, ◌≤◌, ◌<◌, T, ℤ, pos, length, get_or, set}
use Rattle.std.proofs.Common.{sym, ap, subst, ◌∙◌, arith}
use Rattle.std.proofs.lemmas.Bool.{not-true, not-false}
use Rattle.algebra.specs.Table.{Free, tabulate, length_tabulate, get_d_tabulate, free_laid}
use Rattle.rules.specs.Grid.{in_range}
use Rattle.rules.specs.Laws.Checks.{NoneOut}
use Rattle.rules.proofs.Laws.Checks.{none_out_start, none_out_more, none_out_at}
use Rattle.algebra.specs.Partly.{Partly, begun, stored, finished}
use Rattle.fit_steps.specs.Steps.{Written}

-- l is the scratch d with the first i of count values f laid from n on, none of them out of range
pub record Tested (n count i : ℕ) (f : ℕ → ℤ) (d l : List ℤ) : Type 0 where
  pub within : i ≤ count
  pub partly : Partly n i f d l
  pub none_out : NoneOut i (tabulate count f)

pub untested : (n count : ℕ) (f : ℕ → ℤ) (d : List ℤ) → Tested n count 0 f d d
untested n count f d = record { within = omega arith; partly = begun n 0 f d refl; none_out = none_out_start (tabulate count f) }

module _ {n count i : ℕ} {f : ℕ → ℤ} {d l : List ℤ} (p : Tested n count i f d l) (room : n + count ≤ length d) where
  free : Free n count d l
  free = rw p.partly.is (free_laid n count (tabulate i f) d (rw (length_tabulate i f) p.within) room)

  -- x is the next value, and b what `in_range` says of it
  module _ {x : ℤ} {b : Bool} (h : i < count) (is : x ≡ f i) (told : b ≡ in_range x) where
    test : b ≡ in_range (get_or (tabulate count f) i (pos 0))
    test = told ∙ ap in_range (is ∙ sym (get_d_tabulate count f i (pos 0) h))

    pub passed : not b ≡ false → Tested n count (i + 1) f d (set l (n + i) x)
    passed t = record {
      within = omega arith;
      partly = stored p.partly (omega arith) is;
      none_out = none_out_more i (tabulate count f) p.none_out (subst T (sym (not-false b t) ∙ test) tt);
    }

    -- the same where the values are laid from the start on
    pub passed_front : n ≡ 0 → not b ≡ false → Tested n count (i + 1) f d (set l i x)
    passed_front e t = let place : n + i ≡ i = omega arith in rw place at (passed t)

    pub refused : not b ≡ true → Written false n count (tabulate count f) d l
    refused t = record { found = λ r. none_out_at count i (tabulate count f) p.none_out h (sym test ∙ not-true b t) (λ i. r); is = λ t. absurd t; free = free }

  pub accepted : count ≤ i → Written true n count (tabulate count f) d l
  accepted h =
      let e : i ≡ count = omega (arith, p.within) in
      record { found = λ r. rw e at (p.none_out (λ i. r)); is = λ t. finished p.partly e refl; free = free }
