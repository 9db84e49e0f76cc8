-- The first heights of a slice, as they are lent by themselves: their check and their sum of depths are those of the slice.
use Rattle.std.proofs.Common.{◌≡◌, ℕ, zero, suc, ◌+◌, ◌≤◌, ◌<◌, List, length, take, get_or, refl, ap, ap₂, ◌∙◌, length-take-le, get_or-take, arith}
use Rattle.std.specs.Prelude.{ℤ, pos}
use Rattle.rules.specs.Grid.{in_range}
use Rattle.rules.specs.Answers.{range, require, range_check}
use Rattle.rules.specs.Storage.{depth, depths, heights_check}
use Rattle.rules.proofs.Laws.Checks.{first_of_same}

module _ (n : ℕ) (heights : List ℤ) (held : n ≤ length heights) where
  abbrev pub front : List ℤ
  front = take n heights

  pub front_length : length front ≡ n
  front_length = length-take-le n heights held

  pub front_check : heights_check (length front) front ≡ heights_check n heights
  unfolding heights_check range_check
  front_check =
      ap (λ k. range_check k front (λ i. range (i + 1))) front_length
      ∙ first_of_same n _ _ (λ i l. ap (λ z. require (in_range z) (range (i + 1))) (get_or-take n heights i (pos 0) l))

  pub front_depths : (stage : ℤ) → depths (length front) front stage ≡ depths n heights stage
  unfolding depths
  front_depths stage = ap (λ k. depths k front stage) front_length ∙ go n (λ i l. get_or-take n heights i (pos 0) l)
    where
      go : (k : ℕ) → ((i : ℕ) → i < k → get_or front i (pos 0) ≡ get_or heights i (pos 0)) → depths k front stage ≡ depths k heights stage
      go zero h = refl
      go (suc k) h = ap₂ (λ d z. d + depth stage z) (go k (λ i l. h i (omega arith))) (h k (omega arith))
