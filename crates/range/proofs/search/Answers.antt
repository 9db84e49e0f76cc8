use Rattle.std.proofs.Common.{T, get_or, pos, sym, ◌∙◌, subst, arith}
use Rattle.rules.proofs.Laws.Checks.{none_out_more, some_out_past}
use Rattle.range.specs.Scan.{tested}
use Rattle.range.proofs.search.Goals as goal

pub offset_bounds-values-i : goal.offset_bounds-values-i
offset_bounds-values-i c = omega (arith, some_out_past _ _ _ c.loop-i.invariant c.requires.some_out)

pub bounds-values-i : goal.bounds-values-i
bounds-values-i c = some_out_past _ _ _ c.loop-i.invariant c.requires.some_out

pub loop-i-smaller : goal.loop-i-smaller
loop-i-smaller c = omega (arith, some_out_past _ _ _ c.loop-i.invariant c.requires.some_out)

pub loop-i-preserved : goal.loop-i-preserved
loop-i-preserved c =
    let value = get_or c.args.values.now c.loop-i.i (pos 0) in
    none_out_more _ _ c.loop-i.invariant (subst T (sym c.loop-i-test.true ∙ tested value _ (omega arith) c.in_range.ensures) tt)

pub overflow_add-i : goal.overflow_add-i
overflow_add-i c = omega (arith, some_out_past _ _ _ c.loop-i.invariant c.requires.some_out)

pub returns : goal.returns
returns c =
    let value = get_or c.args.values.now c.loop-i.i (pos 0) in
    record {
      none_before = c.loop-i.invariant;
      out = sym (tested value _ (omega arith) c.in_range.ensures) ∙ c.loop-i-test.false;
    }
