-- A stage by its number, where that is one of the 8,000,000,001 in range.
use Rattle.std.specs.Prelude.{◌≡◌, ℕ, ◌<◌, cond, ltb, ℤ, Option, Some, None}
use Rattle.std.proofs.Common.{ap, arith, lt-ltb, le-ltb}
use Rattle.rules.specs.Stage.{stage_at}

unfoldable pub stage_numbered : ℕ → Option ℤ
stage_numbered k = cond (ltb k 8_000_000_001) (Some (stage_at k)) None

pub numbered_some : (k : ℕ) → k < 8_000_000_001 → stage_numbered k ≡ Some (stage_at k)
unfolding stage_numbered
numbered_some k h = ap (λ b. cond b (Some (stage_at k)) None) (lt-ltb k 8_000_000_001 h)

pub numbered_none : {k : ℕ} → k ≡ 8_000_000_001 → stage_numbered k ≡ None
unfolding stage_numbered
numbered_none {k} e = ap (λ b. cond b (Some (stage_at k)) None) (le-ltb k 8_000_000_001 (omega (arith, e)))
