-- Where the node is wet the mask keeps all bits of height less stage less 2^40, and else none.
use Rattle.std.proofs.Common.{◌≡◌, ℕ, ◌+◌, ◌-◌, ◌*◌, ◌%◌, ◌^◌, ◌<◌, ◌≤◌, min, sym, ap, ap₂, ◌∙◌, subst, mod-eq_of_lt, arith, to_z, of_z}
use Rattle.std.proofs.Math.Decide.{dec_lt}
use Rattle.std.specs.Prelude.{ℤ}
use Rattle.std.specs.Int.{w64}
use Rattle.std.specs.Int.Bits.{bit_and, and_mask, and_zero_r}
use Rattle.machine.specs.Tests.{plain}
use Rattle.rules.specs.Storage.{depth}
use Rattle.rules.proofs.Laws.Storage.{depth_most}
use Rattle.storage.specs.Over.{Over, dry, wet}
use Rattle.storage.proofs.marked_depth.Goals as goal

-- 0 less k, in 64 bits
abbrev negative : ℕ → ℕ
negative k = (0 + (2 ^ 64 - k)) % 2 ^ 64

negative_some : (k d : ℕ) → 0 < k → k + d ≡ 2 ^ 64 → negative k ≡ d
negative_some k d l is = omega arith

-- the bits of over less 2^40
abbrev marked : ℕ → ℕ
marked over = (over + (2 ^ 64 - 1_099_511_627_776)) % 2 ^ 64

marked_is : (d over : ℕ) → d ≤ 8_000_000_000 → d + over ≡ 2 ^ 64 → 0 < d → marked over + (d + 1_099_511_627_776) ≡ 2 ^ 64
marked_is d over l is w = omega arith

module _ (stage height : ℤ) (over mask : ℕ) (o : Over stage height over) (is : mask ≡ min 1 (depth stage height) * 18_446_744_073_709_551_615) where
  negated : negative (bit_and (marked over) mask) ≡ depth stage height + min 1 (depth stage height) * 1_099_511_627_776
  negated = go (dec_lt over (2 ^ 63))
    where
      some : depth stage height + over ≡ 2 ^ 64 → over < 2 ^ 64 → 0 < depth stage height
      some e f = omega arith

      one : 0 < depth stage height → min 1 (depth stage height) ≡ 1
      one w = omega arith

      bits : depth stage height ≤ 8_000_000_000 → (v : ℕ) → v + (depth stage height + 1_099_511_627_776) ≡ 2 ^ 64 → 0 < v
      bits l v e = omega arith

      fits : marked over < 2 ^ 64
      fits = omega arith

      go : Dec (over < 2 ^ 63) → negative (bit_and (marked over) mask) ≡ depth stage height + min 1 (depth stage height) * 1_099_511_627_776
      go (yes l) =
          let none : mask ≡ 0 = is ∙ ap (λ d. min 1 d * 18_446_744_073_709_551_615) (dry o l) in
          let kept : bit_and (marked over) mask ≡ 0 = ap (bit_and (marked over)) none ∙ and_zero_r (marked over) in
          ap negative kept ∙ ap (λ d. d + min 1 d * 1_099_511_627_776) (sym (dry o l))
      go (no g) =
          let high : 2 ^ 63 ≤ over = omega (arith, g) in
          let w : 0 < depth stage height = some (wet o high) o.fits in
          let most = depth_most stage height o.stage_size o.height_size in
          let all : mask ≡ 2 ^ 64 - 1 = is ∙ ap (λ v. v * 18_446_744_073_709_551_615) (one w) in
          let kept : bit_and (marked over) mask ≡ marked over = ap (bit_and (marked over)) all ∙ and_mask (marked over) 64 ∙ mod-eq_of_lt fits in
          let total = marked_is (depth stage height) over most (wet o high) w in
          ap negative kept
          ∙ negative_some (marked over) (depth stage height + 1_099_511_627_776) (bits most (marked over) total) total
          ∙ ap (λ v. depth stage height + v * 1_099_511_627_776) (sym (one w))

pub returns : goal.returns
returns c =
    let a = c.args in
    let stage_is = plain a.stage c.ranges.stage.sfits in
    let height_is = plain a.height c.ranges.height.sfits in
    let over = c.over-marked.result in
    negated a.stage a.height over c.wet_mask.result
    (subst (λ z. Over z a.height over) stage_is (subst (λ z. Over (to_z w64 (of_z w64 a.stage)) z over) height_is c.over-marked.ensures))
    (c.wet_mask.ensures ∙ ap₂ (λ z h. min 1 (depth z h) * 18_446_744_073_709_551_615) stage_is height_is)
