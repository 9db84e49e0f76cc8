-- What the steps' contracts cite beside the rules.
use Rattle.std.specs.Prelude.{ℕ, ◌≡◌, Bool, List, T, ℤ, pos, ◌+ℤ◌, get_or}
use Rattle.algebra.specs.Table.{tabulate, laid, Free}
use Rattle.rules.specs.Answers.{Refusal, range_check}
use Rattle.answers.specs.Cause.{ok_check}

-- two lattices added
abbrev pub sum_at : List ℤ → List ℤ → ℕ → ℤ
sum_at lattice added q = get_or lattice q (pos 0) +ℤ get_or added q (pos 0)

unfoldable pub summed : ℕ → List ℤ → List ℤ → List ℤ
summed count lattice added = tabulate count (sum_at lattice added)

-- what a step answers and leaves that writes count values from place n on: it says no at the first that is out of range, and its places are then free
pub record Written (ok : Bool) (n count : ℕ) (values before after : List ℤ) : Type 0 where
  pub found : (r : Refusal) → range_check count values (λ i. r) ≡ ok_check ok r
  pub is : T ok → after ≡ laid n values before
  pub free : Free n count before after
