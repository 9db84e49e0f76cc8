-- A product of bounded numbers.
use Rattle.std.proofs.Common.{◌+◌, ◌*◌, ◌≤◌, ap, arith}
use Rattle.std.proofs.Math.Nat.{mul-le-mul}
use Rattle.rules.specs.LatticeFile.{row_start}
use Rattle.lattice_layout.proofs.row_start.Goals as goal

pub returns : goal.returns
unfolding row_start
returns c =
    let long : c.row_length.result ≤ 4_124 = c.row_length.ensures.1 in
    (ap (λ k. 6 + c.args.r * k) c.row_length.ensures.0, omega (arith, mul-le-mul c.requires long))
