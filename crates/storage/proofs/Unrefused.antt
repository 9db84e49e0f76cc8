-- What the checks of a storage find in a raster as it is promised: no height is out of range, and columns, rows and room are in order.
use Rattle.std.specs.Prelude.{◌≡◌, ℕ, ◌+◌, ◌*◌, List, length, ℤ, nat_le}
use Rattle.std.proofs.Common.{◌∙◌, le→leb}
use Rattle.std.proofs.Math.Option.{none}
use Rattle.rules.specs.Answers.{short, range, require}
use Rattle.rules.specs.Calls.{Nodes, counts_check, nodes}
use Rattle.rules.specs.Storage.{side_check, pond_check, heights_check}
use Rattle.rules.proofs.Laws.Checks.{require_met, then_none, size_range_check}
use Rattle.raster.specs.Promises.{many, counted, entries_held, entry_in_range}
use Rattle.storage.specs.Sampled.{Sampled}

module _ {columns rows : ℕ} {heights : List ℤ} (s : Sampled columns rows heights) where
  abbrev g : Nodes
  g = nodes s.x0 s.y0 s.step columns rows

  count_is : columns * rows ≡ s.count
  count_is = many s.m s.n s.unit s.lattice g s.lent s.answered heights s.rules s.count s.is

  -- no height is refused
  pub heights_unrefused : heights_check (columns * rows) heights ≡ none
  unfolding heights_check
  heights_unrefused =
      size_range_check (columns * rows) heights (λ i. range (i + 1))
      (λ i l. entry_in_range s.m s.n s.unit s.lattice g s.lent s.answered heights s.rules s.count s.is i (rw (← count_is) l))

  -- nor are the columns, the rows and the slice
  pub sampled_pond : (side : ℕ) → pond_check columns rows heights side ≡ side_check side
  unfolding pond_check
  sampled_pond side =
      let room = nat_le (columns * rows) (length heights) in
      let counts = counted s.m s.n s.unit s.lattice g s.lent s.answered heights s.rules s.count s.is in
      let held = entries_held s.m s.n s.unit s.lattice g s.lent s.answered heights s.rules s.count s.is in
      then_none (counts_check columns rows) _ counts ∙ then_none (require room short) _ (require_met room short (le→leb (columns * rows) (length heights) (rw count_is held)))
