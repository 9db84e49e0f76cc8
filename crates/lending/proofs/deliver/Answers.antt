-- A part that is lent is an area, and all of it is shifted or copied.
use Rattle.std.proofs.Common.{ap, ap₂, ◌∙◌, ◌+◌, ◌*◌, ◌%◌, ◌≤◌, length, arith}
use Rattle.algebra.specs.Table.{over, area_part, length_area}
use Rattle.machine.specs.Tests.{plain}
use Rattle.rules.specs.Fit.{shifted}
use Rattle.scratch.specs.Scratch.{area_within, part_ranged}
use Rattle.lending.proofs.deliver.Goals as goal

pub shift-requires : goal.shift-requires
shift-requires c =
    let a = c.args in
    let n = a.h % 2 * a.most in
    let room : n + a.most ≤ length a.whole.now = omega (arith, area_within a.h a.most, c.requires.rooms) in (
      rw (area_part n a.most a.whole.now, length_area n a.most a.whole.now room) c.requires.rooms.2,
      part_ranged n a.most a.whole.now room c.requires.values_in_range.0,
      rw (plain a.base c.ranges.base.sfits) c.requires.values_in_range.1,
    )

pub returns-clause-lattice_after : goal.returns-clause-lattice_after
returns-clause-lattice_after c =
    let a = c.args in
    c.shift.ensures ∙ ap₂ (λ z r. over (shifted z r) a.lattice.now) (plain a.base c.ranges.base.sfits) (area_part (a.h % 2 * a.most) a.most a.whole.now)

pub returns-clause-residual_after : goal.returns-clause-residual_after
returns-clause-residual_after c =
    let a = c.args in
    c.copy.ensures ∙ ap (λ r. over r a.residual.now) (area_part (3 * a.most) a.p a.whole.now)
