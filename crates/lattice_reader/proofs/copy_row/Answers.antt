-- Each value follows those before it.
use Rattle.std.proofs.Common.{sym, ◌+◌, ◌*◌, pos}
use Rattle.algebra.specs.Table.{tabulate, over_none, fill_store}
use Rattle.machine.specs.Held.{returned}
use Rattle.rules.specs.Bytes.{value_at}
use Rattle.lattice_reader.proofs.copy_row.Goals as goal

pub loop-c-init : goal.loop-c-init
unfolding tabulate
loop-c-init c = sym (over_none _)

pub loop-c-preserved : goal.loop-c-preserved
loop-c-preserved c =
    let a = c.args in
    fill_store c.loop-c.c (λ c. value_at a.file.now (a.s + 8 * c)) a.row.now (pos 0) c.loop-c-test.true c.loop-c.invariant (returned c.value_at.type_inv c.value_at.ensures)
