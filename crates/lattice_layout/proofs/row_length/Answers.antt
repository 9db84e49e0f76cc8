-- At most 512 cells across.
use Rattle.std.proofs.Common.{◌+◌, ◌*◌, ap, arith}
use Rattle.rules.specs.LatticeFile.{row_length}
use Rattle.lattice_layout.proofs.row_length.Goals as goal

pub returns : goal.returns
unfolding row_length
returns c = (ap (λ k. 4 + 8 * k) c.width.ensures, omega arith)
