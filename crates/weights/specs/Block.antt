-- A block of weights as the code has it, and that the one made for a point has the rule's weights.
-- Where a list has no entry, nan stands for one, as in the machine's reading.
use Rattle.std.specs.Prelude.{ℕ, ◌<◌, ◌≡◌, Float}
use Rattle.std.proofs.Math.Path.{refl, ap, ap₂}
use Rattle.std.proofs.Common.{◌∙◌}
use mathlib.Core.List.{List, []}
use Rattle.std.specs.Float.Ieee.{nan}
use Rattle.std.proofs.Math.ListN.{get_or}
use Rattle.algebra.specs.Table.{tabulate, get_d_tabulate}
use Rattle.rules.specs.Surface.{offset}
use Rattle.rules.specs.Level as rule
use Rattle.rules.specs.Level.{◌⊗◌}

-- the products of b, the first index, and c
unfoldable pub block_of : List Float → List Float → List (List Float)
block_of b c = tabulate 4 (λ k. tabulate 4 (λ l. get_or b k nan ⊗ get_or c l nan))

abbrev pub weight_at : List (List Float) → ℕ → ℕ → Float
weight_at w k l = get_or (get_or w k []) l nan

module _ (U m n : ℕ) (p : rule.Point) where
  -- the block of a point
  unfoldable pub point_block : List (List Float)
  point_block = block_of (tabulate 4 (rule.basis U (offset U m p.x))) (tabulate 4 (rule.basis U (offset U n p.y)))

  pub weight_is : (k l : ℕ) → k < 4 → l < 4 → weight_at point_block k l ≡ rule.weight U m n p k l
  unfolding point_block block_of rule.weight
  weight_is k l i j =
      ap (λ r. get_or r l nan) (get_d_tabulate 4 _ k [] i)
      ∙ get_d_tabulate 4 _ l nan j
      ∙ ap₂ ◌⊗◌ (get_d_tabulate 4 _ k nan i) (get_d_tabulate 4 _ l nan j)

  pub squares_are : rule.squares (weight_at point_block) ≡ rule.squares (rule.weight U m n p)
  unfolding point_block block_of tabulate rule.squares rule.add_squares rule.weight
  squares_are = refl
