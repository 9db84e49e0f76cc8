-- The sums passed are laid and none is out of range, and those to add are as they were.
use Rattle.std.proofs.Common.{not, refl, ap, arith, length, get_or, pos}
use Rattle.machine.specs.Held.{Number, number, itself, read, plus, fits}
use Rattle.rules.specs.Grid.{limit}
use Rattle.fit_steps.specs.Steps.{summed}
use Rattle.fit_steps.specs.Entries.{ahead_held}
use Rattle.fit_steps.specs.Tested.{untested, passed_front, refused, accepted}
use Rattle.fit_steps.proofs.add.Goals as goal
use Rattle.fit_steps.proofs.add.Goals.{In-loop-q}

-- ---- the sum of a turn

module _ (c : In-loop-q) where
  abbrev total : Number
  total =
      let q = c.requires.values_in_range in
      number
      (plus (ahead_held c.loop-q.invariant.partly (length c.args.level.now) c.loop-q.q c.loop-q-test.true (omega arith) q.1)
      (read tt (itself (get_or c.args.level.now c.loop-q.q (pos 0)) limit (q.0 c.loop-q.q c.loop-q-test.true))))

-- ---- what it leaves and answers

pub loop-q-init : goal.loop-q-init
loop-q-init c = untested 0 _ _ _

pub overflow_add-sum : goal.overflow_add-sum
overflow_add-sum c = fits tt (total (goal.at.overflow_add-sum c).In-loop-q).held

pub loop-q-preserved : goal.loop-q-preserved
loop-q-preserved c =
    passed_front c.loop-q.invariant (omega arith) c.loop-q-test.true (read tt (total (goal.at.loop-q-preserved c).In-loop-q).held).is c.in_range.ensures refl (ap not c.if-not-in_range.false)

pub returns-then-not-in_range : goal.returns-then-not-in_range
unfolding summed
returns-then-not-in_range c =
    refused c.loop-q.invariant (omega arith) c.loop-q-test.true (read tt (total (goal.at.returns-then-not-in_range c).In-loop-q).held).is c.in_range.ensures (ap not c.if-not-in_range.true)

pub returns : goal.returns
unfolding summed
returns c = accepted c.loop-q.invariant (omega arith) c.loop-q-test.false
