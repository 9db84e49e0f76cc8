-- What a step leaves in scratch beside what it changes.
use Rattle.std.specs.Prelude.{ℕ, ◌+◌, ◌*◌, ◌%◌, ◌≤◌, List, ℤ, length}
use Rattle.std.proofs.Common.{◌∙◌, inl, inr, arith}
use Rattle.algebra.specs.Table.{Free, free_area}
use Rattle.rules.specs.Fit.{Shape, Survey, point_count, valued, residuals, level}
use Rattle.rules.specs.Laws.Checks.{AllInRange}
use Rattle.rules.proofs.Laws.Fit.{level_size}
use Rattle.scratch.specs.Scratch.{area_within, RunningThere, ResidualsThere, places}

pub level_ranged : (a : Shape) (s : Survey) (k : ℕ) → AllInRange (places a k) (level a s k)
unfolding level
level_ranged a s k = level_size a k (valued s (residuals a s k))

-- what stands apart from free places stays
module _ {n j : ℕ} {whole now : List ℤ} (f : Free n j whole now) (room : n + j ≤ length whole) {a : Shape} {s : Survey} {most k : ℕ} where
  pub running_kept : RunningThere a s most k whole → places a k ≤ most → 2 * most ≤ n → RunningThere a s most k now
  running_kept r few h =
      record { is = free_area f room (k % 2 * most) (places a k) (inl (omega (arith, area_within k most))) ∙ r.is; ranged = r.ranged }

  pub residuals_kept : ResidualsThere a s most k whole → n + j ≤ 3 * most → ResidualsThere a s most k now
  residuals_kept r h = record { is = free_area f room (3 * most) (point_count s) (inr h) ∙ r.is; ranged = r.ranged }
