-- The answer stands at the start of the array.
use Rattle.std.proofs.Common.{◌≡◌, ◌≤◌, ℕ, List, length, drop, refl, ap, arith, length-append}
use Rattle.algebra.specs.Table.{over}
use Rattle.refused_line.specs.Wrote.{Wrote}
use Rattle.respond.proofs.respond.Goals as goal

bounded : {len : ℕ} {bytes text d : List ℕ} → 2_974 ≡ length d → length bytes ≡ length d → Wrote text d len bytes → len ≤ 2_974
unfolding over
bounded {text = text} {d} room kept w = omega (arith, w.long, ap length w.is, length-append text (drop (length text) d))

pub invariant_of-result : goal.invariant_of-result
invariant_of-result c = record { within = bounded refl c.write-len.auto.output c.write-len.ensures }
