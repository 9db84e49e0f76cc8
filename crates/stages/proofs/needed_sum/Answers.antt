-- The least sum in two parts, neither of which leaves 64 bits.
use Rattle.std.proofs.Common.{◌≡◌, ℕ, mul-pos, ◌+◌, ◌-◌, ◌*◌, ◌/◌, ◌%◌, ◌≤◌, ◌<◌, sym, ap, ◌∙◌, arith}
use Rattle.rules.specs.Storage.{litres}
use Rattle.rules.proofs.Laws.Needed.{needed_stores}
use Rattle.rules.proofs.Laws.Stage.{needed_parts}
use Rattle.std.specs.Int.{div_ceil}
use Rattle.stages.proofs.Rounded.{rounded_up}
use Rattle.stages.proofs.needed_sum.Goals as goal

-- both parts together
parts_most : (wanted side : ℕ) → 0 < side → wanted ≤ litres 537_001_992_000_000_000 side
    → let square = side * side in wanted / square * 100_000 + (wanted % square * 100_000 + (square - 1)) / square ≤ 537_001_992_000_000_000
parts_most wanted side some most = rw (← needed_parts wanted side some) ((needed_stores wanted side 537_001_992_000_000_000 some).0 most)

-- the second part, rounded up
up : (wanted side : ℕ) {part : ℕ} → 0 < side → let square = side * side in part ≡ div_ceil (wanted % square * 100_000) square → part ≡ (wanted % square * 100_000 + (square - 1)) / square
up wanted side some is = is ∙ rounded_up _ _ (mul-pos some some)

pub returns : goal.returns
returns c =
    let a = c.args in
    let square = a.side * a.side in
    ap (λ v. a.wanted / square * 100_000 + v) (up a.wanted a.side c.requires.0 c.div_ceil.ensures) ∙ sym (needed_parts a.wanted a.side c.requires.0)

pub overflow_mul-result : goal.overflow_mul-result
overflow_mul-result c = omega (arith, parts_most c.args.wanted c.args.side c.requires.0 c.requires.2)

pub overflow_add-result : goal.overflow_add-result
overflow_add-result c = rw (up c.args.wanted c.args.side c.requires.0 c.div_ceil.ensures) (omega (arith, parts_most c.args.wanted c.args.side c.requires.0 c.requires.2))
