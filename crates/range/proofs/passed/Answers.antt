use Rattle.std.proofs.Common.{◌+◌, arith}
use Rattle.std.proofs.lemmas.Grind.{div_ceil_times}
use Rattle.rules.proofs.Laws.Checks.{none_out_start, none_out_less, some_out_more}
use Rattle.range.specs.Scan.{all_none_out}
use Rattle.range.proofs.Blocks.{none_out, some_out}
use Rattle.range.proofs.passed.Goals as goal

pub loop-block-init : goal.loop-block-init
loop-block-init c = λ k h n. none_out_less _ 0 _ h (none_out_start _)

pub returns-then-not-all_in_range-clause-none_before : goal.returns-then-not-all_in_range-clause-none_before
returns-then-not-all_in_range-clause-none_before c = c.loop-block.invariant _ (omega arith) (omega arith)

pub returns-then-not-all_in_range-clause-some_behind : goal.returns-then-not-all_in_range-clause-some_behind
returns-then-not-all_in_range-clause-some_behind c =
    let before = c.loop-block.invariant c.min-start.result (omega arith) (omega arith) in
    λ h. some_out_more (c.min-start.result + 64) _ _ (omega arith) (some_out _ _ _ (omega arith) (omega arith) before c.all_in_range.ensures c.if-not-all_in_range.true)

pub loop-block-preserved : goal.loop-block-preserved
loop-block-preserved c = λ k h n.
    let before = c.loop-block.invariant c.min-start.result (omega arith) (omega arith) in
    let there = all_none_out _ _ _ c.all_in_range.ensures c.if-not-all_in_range.false in
    none_out_less k (c.min-start.result + 64) _ (omega arith) (none_out _ _ _ (omega arith) (omega arith) before there)

pub returns-clause-none_before : goal.returns-clause-none_before
returns-clause-none_before c = c.loop-block.invariant _ (omega (arith, div_ceil_times c.args.n 64 (omega arith))) (omega arith)
