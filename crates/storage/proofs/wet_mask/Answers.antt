-- The top bit is 1 exactly where the node is wet.
use Rattle.std.proofs.Common.{◌≡◌, ℕ, ◌+◌, ◌-◌, ◌*◌, ◌/◌, ◌%◌, ◌^◌, ◌<◌, ◌≤◌, min, sym, ap, ap₂, ◌∙◌, arith}
use Rattle.std.proofs.Math.Decide.{dec_lt}
use Rattle.std.specs.Prelude.{ℤ}
use Rattle.machine.specs.Tests.{plain}
use Rattle.rules.specs.Storage.{depth}
use Rattle.storage.specs.Over.{Over, dry, wet}
use Rattle.storage.proofs.wet_mask.Goals as goal

-- 0 less the top bit, in 64 bits
abbrev mask : ℕ → ℕ
mask over = (0 + (2 ^ 64 - over / 2 ^ 63)) % 2 ^ 64

no_bits : (over : ℕ) → over < 2 ^ 63 → mask over ≡ 0
no_bits over l = omega arith

all_bits : (over : ℕ) → 2 ^ 63 ≤ over → over < 2 ^ 64 → mask over ≡ 2 ^ 64 - 1
all_bits over l f = omega arith

is_mask : (over : ℕ) {stage height : ℤ} → Over stage height over → mask over ≡ min 1 (depth stage height) * 18_446_744_073_709_551_615
is_mask over {stage} {height} o = go (dec_lt over (2 ^ 63))
  where
    some : depth stage height + over ≡ 2 ^ 64 → over < 2 ^ 64 → 1 ≡ min 1 (depth stage height)
    some e f = omega arith

    go : Dec (over < 2 ^ 63) → mask over ≡ min 1 (depth stage height) * 18_446_744_073_709_551_615
    go (yes l) = no_bits over l ∙ ap (λ d. min 1 d * 18_446_744_073_709_551_615) (sym (dry o l))
    go (no g) =
        let high : 2 ^ 63 ≤ over = omega (arith, g) in
        all_bits over high o.fits ∙ ap (λ v. v * 18_446_744_073_709_551_615) (some (wet o high) o.fits)

pub returns : goal.returns
returns c =
    let a = c.args in
    is_mask c.over.result c.over.ensures
    ∙ ap₂ (λ z h. min 1 (depth z h) * 18_446_744_073_709_551_615) (plain a.stage c.ranges.stage.sfits) (plain a.height c.ranges.height.sfits)
