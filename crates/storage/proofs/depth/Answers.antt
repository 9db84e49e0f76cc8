-- The bits of height less stage, where the node is wet, are those of the depth with the other sign, and the mask keeps none of them where it is dry.
use Rattle.std.proofs.Common.{◌≡◌, ℕ, ◌+◌, ◌-◌, ◌*◌, ◌%◌, ◌^◌, ◌<◌, ◌≤◌, min, sym, ap, ap₂, ◌∙◌, subst, mod-eq_of_lt, arith, to_z, of_z}
use Rattle.std.proofs.Math.Decide.{dec_lt}
use Rattle.std.specs.Prelude.{ℤ}
use Rattle.std.specs.Int.{w64}
use Rattle.std.specs.Int.Bits.{bit_and, and_mask, and_zero_r}
use Rattle.machine.specs.Tests.{plain}
use Rattle.rules.specs.Storage.{depth}
use Rattle.storage.specs.Over.{Over, dry, wet}
use Rattle.storage.proofs.depth.Goals as goal

-- 0 less k, in 64 bits
abbrev negative : ℕ → ℕ
negative k = (0 + (2 ^ 64 - k)) % 2 ^ 64

negative_some : (k d : ℕ) → 0 < k → d + k ≡ 2 ^ 64 → negative k ≡ d
negative_some k d l is = omega arith

-- 0 less what the mask keeps
module _ (stage height : ℤ) (over mask : ℕ) (o : Over stage height over) (is : mask ≡ min 1 (depth stage height) * 18_446_744_073_709_551_615) where
  negated : negative (bit_and over mask) ≡ depth stage height
  negated = go (dec_lt over (2 ^ 63))
    where
      one : depth stage height + over ≡ 2 ^ 64 → over < 2 ^ 64 → min 1 (depth stage height) ≡ 1
      one e f = omega arith

      go : Dec (over < 2 ^ 63) → negative (bit_and over mask) ≡ depth stage height
      go (yes l) =
          let none : mask ≡ 0 = is ∙ ap (λ d. min 1 d * 18_446_744_073_709_551_615) (dry o l) in
          let kept : bit_and over mask ≡ 0 = ap (bit_and over) none ∙ and_zero_r over in
          ap negative kept ∙ sym (dry o l)
      go (no g) =
          let high : 2 ^ 63 ≤ over = omega (arith, g) in
          let all : mask ≡ 2 ^ 64 - 1 = is ∙ ap (λ v. v * 18_446_744_073_709_551_615) (one (wet o high) o.fits) in
          let kept : bit_and over mask ≡ over = ap (bit_and over) all ∙ and_mask over 64 ∙ mod-eq_of_lt o.fits in
          ap negative kept ∙ negative_some over (depth stage height) (omega (arith, high)) (wet o high)

pub returns : goal.returns
returns c =
    let a = c.args in
    let stage_is = plain a.stage c.ranges.stage.sfits in
    let height_is = plain a.height c.ranges.height.sfits in
    let over = c.over.result in
    negated a.stage a.height over c.wet_mask.result
    (subst (λ z. Over z a.height over) stage_is (subst (λ z. Over (to_z w64 (of_z w64 a.stage)) z over) height_is c.over.ensures))
    (c.wet_mask.ensures ∙ ap₂ (λ z h. min 1 (depth z h) * 18_446_744_073_709_551_615) stage_is height_is)
