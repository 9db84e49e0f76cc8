-- The least sum of depths that stores the wanted litres is the one that is worked out.
use Rattle.std.specs.Prelude.{◌↔◌}
use Rattle.std.proofs.Common.{mul-pos, le-div_iff_mul-le, lit<}
use Prim.Native.Nat.{ℕ, ◌*◌, ◌≤◌, ◌<◌}
use Rattle.algebra.specs.Size.{ceil_le}
use Rattle.rules.specs.Storage.{litres}
use Rattle.rules.specs.Laws.Stage.{needed_sum}

pub needed_stores : (wanted s sum : ℕ) → 0 < s → (wanted ≤ litres sum s) ↔ (needed_sum wanted s ≤ sum)
unfolding needed_sum litres
needed_stores wanted s sum h =
    let up = ceil_le (wanted * 100_000) (s * s) sum (mul-pos h h) in
    let down = le-div_iff_mul-le {k = 100_000} (lit< tt) in
    (λ e. up.1 (down.0 e), λ e. down.1 (up.0 e))
