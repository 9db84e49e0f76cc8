-- How far a height is over a stage, in 64 bits: what their top bit says, and the depth from them.
use Rattle.std.specs.Prelude.{◌≡◌, ℕ, ◌+◌, ◌-◌, ◌%◌, ◌^◌, ◌<◌, ◌≤◌, ℤ, pos, negsuc, unsigned_abs}
use Rattle.std.proofs.Common.{◌∙◌, arith}
use Rattle.algebra.specs.Difference.{pos_part, neg_part, pos_part_minus}
use Rattle.rules.specs.Bytes.{complement}
use Rattle.rules.specs.Grid.{limit}
use Rattle.rules.specs.Storage.{depth}

-- `over` has the 64 bits of height less stage, both in range
pub record Over (stage height : ℤ) (over : ℕ) : Type 0 where
  pub stage_size : unsigned_abs stage ≤ limit
  pub height_size : unsigned_abs height ≤ limit
  pub less : (over + complement 8 stage) % 2 ^ 64 ≡ complement 8 height
  pub fits : over < 2 ^ 64

-- the depth by the signs of both
module _ (stage height : ℤ) where
  abbrev below : ℕ
  below = (pos_part stage + neg_part height) - (neg_part stage + pos_part height)

  depth_is : depth stage height ≡ below
  unfolding depth
  depth_is = pos_part_minus stage height

below_dry : (stage height : ℤ) (over : ℕ) → Over stage height over → over < 2 ^ 63 → below stage height ≡ 0
unfolding complement pos_part neg_part
below_dry (pos a) (pos b) over o h = omega (arith, o.less, o.stage_size, o.height_size)
below_dry (pos a) (negsuc b) over o h = omega (arith, o.less, o.stage_size, o.height_size)
below_dry (negsuc a) (pos b) over o h = omega (arith, o.less, o.stage_size, o.height_size)
below_dry (negsuc a) (negsuc b) over o h = omega (arith, o.less, o.stage_size, o.height_size)

below_wet : (stage height : ℤ) (over : ℕ) → Over stage height over → 2 ^ 63 ≤ over → below stage height + over ≡ 2 ^ 64
unfolding complement pos_part neg_part
below_wet (pos a) (pos b) over o h = omega (arith, o.less, o.fits, o.stage_size, o.height_size)
below_wet (pos a) (negsuc b) over o h = omega (arith, o.less, o.fits, o.stage_size, o.height_size)
below_wet (negsuc a) (pos b) over o h = omega (arith, o.less, o.fits, o.stage_size, o.height_size)
below_wet (negsuc a) (negsuc b) over o h = omega (arith, o.less, o.fits, o.stage_size, o.height_size)

pub dry : {stage height : ℤ} {over : ℕ} → Over stage height over → over < 2 ^ 63 → depth stage height ≡ 0
dry {stage} {height} {over} o h = depth_is stage height ∙ below_dry stage height over o h

pub wet : {stage height : ℤ} {over : ℕ} → Over stage height over → 2 ^ 63 ≤ over → depth stage height + over ≡ 2 ^ 64
wet {stage} {height} {over} o h = omega (arith, depth_is stage height, below_wet stage height over o h)
