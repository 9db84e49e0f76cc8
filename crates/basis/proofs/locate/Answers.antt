-- The smaller of x / U and m - 1 is the cell, and what is left of x is the offset.
use Rattle.std.proofs.Common.{◌≡◌, ℕ, ◌-◌, ◌*◌, ◌%◌, ◌^◌, ◌<◌, ap, ◌∙◌, mod-eq_of_lt, arith}
use Rattle.rules.specs.Surface.{cell, offset}
use Rattle.rules.proofs.Laws.Basis.{cell_offset}
use Rattle.basis.proofs.locate.Goals as goal

-- what the code shifts back is the start of the cell, and nothing of it is lost
start_is : (U m x : ℕ) → x < 2 ^ 64 → cell U m x * U % 2 ^ 64 ≡ cell U m x * U
start_is U m x h = mod-eq_of_lt {n = cell U m x * U} {m = 2 ^ 64} (omega (arith, cell_offset U m x))

pub returns : goal.returns
unfolding cell offset
returns c =
    let U = 2 ^ c.args.e in
    let m = c.args.m in
    let x = c.args.x in
    let is : c.min-cell.result ≡ cell U m x = c.min-cell.ensures in
    record { cell_is = is; offset_is = ap (λ k. x - k) (ap (λ k. k * U % 2 ^ 64) is ∙ start_is U m x c.ranges.x.fits) }
