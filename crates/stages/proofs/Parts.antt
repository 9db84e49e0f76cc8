-- A part of a raster: what one node, and some, add to the sum of depths and to the count of wet nodes.
use Rattle.std.proofs.Common.{◌≡◌, sym, ap, ap₂, ◌∙◌, List, ℕ, zero, suc, ◌+◌, min, add-one, arith, get_or}
use Rattle.std.proofs.Math.Nat.{add-zero, add-suc, add_assoc}
use Rattle.std.specs.Prelude.{ℤ, pos}
use Rattle.rules.specs.Storage.{depth, depths}
use Rattle.rules.specs.Laws.Checks.{Part}
use Rattle.rules.specs.Laws.Stage.{wet, wets}

module _ (heights : List ℤ) (stage : ℤ) where
  pub depths_next : (i : ℕ) → depths (i + 1) heights stage ≡ depths i heights stage + depth stage (get_or heights i (pos 0))
  unfolding depths
  depths_next i = ap (λ n. depths n heights stage) (add-one i)

  pub wets_next : (i : ℕ) → wets (i + 1) heights stage ≡ wets i heights stage + min 1 (depth stage (get_or heights i (pos 0)))
  unfolding wets wet
  wets_next i = ap (λ n. wets n heights stage) (add-one i)

-- the count so far, and the count of a part that goes on there
pub wets_part : (i w : ℕ) (heights part : List ℤ) (stage : ℤ) → Part i w heights part → wets (i + w) heights stage ≡ wets i heights stage + wets w part stage
unfolding wets
wets_part i zero heights part stage h = ap (λ n. wets n heights stage) (add-zero i) ∙ sym (add-zero (wets i heights stage))
wets_part i (suc w) heights part stage h =
    ap (λ n. wets n heights stage) (add-suc i w)
    ∙ ap₂ (λ a z. a + wet stage z) (wets_part i w heights part stage (λ k l. h k (omega arith))) (sym (h w (omega arith)))
    ∙ add_assoc (wets i heights stage) (wets w part stage) (wet stage (get_or part w (pos 0)))
