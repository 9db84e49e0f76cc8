-- The four values that it reads are in range, so the sum of products is theirs.
use Rattle.std.proofs.Common.{◌≡◌, ℕ, ◌+◌, ◌*◌, ◌≤◌, ◌<◌, pos, get_or, refl, ap, arith}
use Rattle.machine.specs.Held.{returned}
use Rattle.basis.specs.Weighing.{numerators, spaced}
use Rattle.basis.specs.Sums.{spaced_ranged, sum_is}
use Rattle.basis.proofs.line_sum.Goals as goal

pub returns : goal.returns
returns c =
    let l = c.args.lattice.now in
    let value = spaced l c.args.q c.args.apart in
    let ranged = λ (k : ℕ) (_ : 0 ≤ k) (i : k < 0 + 4). spaced_ranged c.requires k i in
    let at = λ (k p : ℕ) (e : p ≡ c.args.q + k * c.args.apart). ap (λ i. get_or l i (pos 0)) e in
    let sum = sum_is value 0 ranged (at 0 _ (omega arith)) (at 1 _ (omega arith)) (at 2 _ (omega arith)) (at 3 _ (omega arith)) (numerators c.args.b) c.weighed.ensures.0 in
    (returned c.weighed.type_inv sum, rw (returned c.weighed.type_inv refl) c.weighed.ensures.1)
