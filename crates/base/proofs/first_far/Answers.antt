use Rattle.std.proofs.Common.{◌≡◌, ℕ, ◌<◌, List, length, get_or, T, sym, ap, subst, ◌∙◌, arith, to_z, of_z}
use Rattle.std.specs.Prelude.{ℤ, pos}
use Rattle.std.specs.Int.{w64}
use Rattle.machine.specs.Held.{Number, number, itself, read, minus, fits}
use Rattle.rules.specs.Grid.{limit, in_range}
use Rattle.rules.specs.Answers.{difference}
use Rattle.rules.specs.Fit.{base, differences, difference_check}
use Rattle.rules.proofs.Laws.Base.{base_size, difference_at}
use Rattle.rules.specs.Laws.Checks.{AllInRange}
use Rattle.rules.proofs.Laws.Checks.{none_out_start, none_out_more, none_out_at}
use Rattle.base.proofs.first_far.Goals as goal

-- ---- the difference of a turn, of heights in range

module _ (zs : List ℤ) (b : ℤ) (i : ℕ) (small : AllInRange (length zs) zs) (is : b ≡ base zs) (listed : i < length zs) where
  abbrev left : Number
  left =
      number (minus (read tt (itself (get_or zs i (pos 0)) limit (small i listed))) (read tt (record { is = is; size = base_size zs small })))

  -- `in_range` was handed its bits, read back
  tested : to_z w64 (of_z w64 left.code) ≡ get_or (differences zs) i (pos 0)
  tested = (read tt left.held).is ∙ sym (difference_at zs i listed)

-- ---- what it finds

pub loop-i-init : goal.loop-i-init
loop-i-init c = none_out_start _

pub loop-i-preserved : goal.loop-i-preserved
loop-i-preserved c =
    let zs = c.args.zs.now in
    let l = c.loop-i in
    let known = tested zs c.args.base l.i c.requires.0 c.requires.1 c.loop-i-test.true in
    none_out_more l.i (differences zs) l.invariant (subst T (c.if-not-in_range.ensures ∙ ap in_range known) tt)

pub returns-then-not-in_range : goal.returns-then-not-in_range
unfolding difference_check
returns-then-not-in_range c =
    let zs = c.args.zs.now in
    let l = c.loop-i in
    let known = tested zs c.args.base l.i c.requires.0 c.requires.1 c.loop-i-test.true in
    sym (none_out_at (length zs) l.i (differences zs) l.invariant c.loop-i-test.true (sym (c.if-not-in_range.ensures ∙ ap in_range known)) difference)

pub returns : goal.returns
unfolding difference_check
returns c =
    let last : length c.args.zs.now ≡ c.loop-i.i = omega arith in
    rw last (sym (c.loop-i.invariant difference))

-- ---- what its steps ask

pub overflow_sub-z : goal.overflow_sub-z
overflow_sub-z c = fits tt (left c.args.zs.now c.args.base c.loop-i.i c.requires.0 c.requires.1 c.loop-i-test.true).held
