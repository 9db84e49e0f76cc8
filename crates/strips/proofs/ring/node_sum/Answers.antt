-- The four sums that it reads are in range, so the sum of products is theirs.
use Rattle.std.proofs.Common.{◌≡◌, ◌∙◌, refl, ℕ, ◌+◌, ◌*◌, ◌%◌, ◌≤◌, ◌<◌, ℤ, pos, get_or, arith}
use Rattle.machine.specs.Held.{itself, read, returned}
use Rattle.basis.specs.Weighing.{numerators}
use Rattle.basis.specs.Sums.{back, four_small, sum_is}
use Rattle.strips.specs.Strips.{node_sum}
use Rattle.strips.proofs.ring.node_sum.Goals as goal
use Rattle.strips.proofs.ring.node_sum.Goals.{After-ring_sum-p3}

module _ (c : After-ring_sum-p3) where
  abbrev cell : ℕ
  cell = c.args.cell

  -- the sum of lattice row r that the ring has at the column
  abbrev value : ℕ → ℤ
  value r = get_or c.args.ring.now (r % 4 * 64 + c.args.i) (pos 0)

  value_is : (r : ℕ) {z : ℤ} → cell ≤ r → r < cell + 4 → z ≡ back (value r) → z ≡ value r
  value_is r h k e = e ∙ (read tt (itself (value r) 4_000_000_000 (c.requires.3 r h k))).is

  sum0 : c.ring_sum-p0.result ≡ value cell
  sum0 = value_is cell (omega arith) (omega arith) c.ring_sum-p0.ensures

  sum1 : c.ring_sum-p1.result ≡ value (cell + 1)
  sum1 = value_is (cell + 1) (omega arith) (omega arith) c.ring_sum-p1.ensures

  sum2 : c.ring_sum-p2.result ≡ value (cell + 2)
  sum2 = value_is (cell + 2) (omega arith) (omega arith) c.ring_sum-p2.ensures

  sum3 : c.ring_sum-p3.result ≡ value (cell + 3)
  sum3 = value_is (cell + 3) (omega arith) (omega arith) c.ring_sum-p3.ensures

pub weighed-requires-clause-values_in_range : goal.weighed-requires-clause-values_in_range
weighed-requires-clause-values_in_range c = four_small (value c) (cell c) c.requires.3 (sum0 c) (sum1 c) (sum2 c) (sum3 c)

pub returns : goal.returns
unfolding node_sum
returns c =
    let d = (goal.at.returns c).After-ring_sum-p3 in
    let plain = returned c.weighed.type_inv refl in
    (plain ∙ sum_is (value d) (cell d) d.requires.3 (sum0 d) (sum1 d) (sum2 d) (sum3 d) (numerators d.args.b) c.weighed.ensures.0, rw plain c.weighed.ensures.1)
