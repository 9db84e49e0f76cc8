-- 5 and 6 of point i of three lists.
use Rattle.std.specs.Prelude.{ℕ, List, ℤ, pos, get_or}
use Rattle.rules.specs.Answers.{Check}
use Rattle.rules.specs.Calls.{spot_check}

-- They ask nothing of a confidence, so any will do.
abbrev pub spot_at : ℕ → ℕ → List ℕ → List ℕ → List ℤ → ℕ → Check
spot_at m n xs ys zs i = spot_check 16 m n i (record { x = get_or xs i 0; y = get_or ys i 0; z = get_or zs i (pos 0); q = 0 })
