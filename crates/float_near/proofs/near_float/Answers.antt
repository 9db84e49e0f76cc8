-- The tests refuse what the rules refuse, and in range it returns near of q.
use Rattle.std.specs.Float.Ieee.{neg, of_bits}
use Rattle.float_near.proofs.Quotient.{rounded, too_low, too_high}
use Rattle.float_near.proofs.near_float.Goals as goal

-- ---- what is refused

pub returns-then-q : goal.returns-then-q
unfolding of_bits neg
returns-then-q c = too_low c.args.q c.if-q.true

pub returns : goal.returns
unfolding of_bits
returns c = too_high c.args.q c.if-q-2.false

-- ---- what is kept

pub float_to_int-n : goal.float_to_int-n
unfolding of_bits neg
float_to_int-n c = (rounded c.args.q c.if-q.false c.if-q-2.true).exact

pub returns-then-q-2 : goal.returns-then-q-2
unfolding of_bits neg
returns-then-q-2 c = (rounded c.args.q c.if-q.false c.if-q-2.true).value
