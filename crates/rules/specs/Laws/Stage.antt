-- What the laws of `proofs/Laws/Stage` speak of.
use Rattle.std.specs.Prelude.{List, ℤ, pos, get_or}
use Prim.Native.Nat.{ℕ, zero, suc, ◌+◌, ◌-◌, ◌*◌, ◌/◌, min}
use Rattle.rules.specs.Storage.{depth}

-- ---- the sum of depths that stores the wanted litres

-- the least one that does
unfoldable pub needed_sum : ℕ → ℕ → ℕ
needed_sum wanted s = (wanted * 100_000 + (s * s - 1)) / (s * s)

-- ---- how fast the sum of depths rises: by a micrometre for each wet node

-- 1 where the stage is above the height, else 0; and how many of the first n nodes are wet
unfoldable pub wet : ℤ → ℤ → ℕ
wet stage height = min 1 (depth stage height)

unfoldable pub wets : ℕ → List ℤ → ℤ → ℕ
wets zero heights stage = 0
wets (suc n) heights stage = wets n heights stage + wet stage (get_or heights n (pos 0))
