-- What the blocks passed is in range, and where a block has a value out of range the search finds the first.
use Rattle.std.proofs.Common.{get_or, pos, sym, ◌∙◌, arith}
use Rattle.rules.specs.Laws.Checks.{NoneOut, SomeOut}
use Rattle.rules.proofs.Laws.Checks.{none_out_start, none_out_at, some_out_more, first_out_found}
use Rattle.range.specs.Scan.{tested, all_none_out}
use Rattle.range.proofs.Blocks.{none_out_first, some_out_first}
use Rattle.range.proofs.first_out.Goals as goal
use Rattle.range.proofs.first_out.Goals.{Joined-n-lt64, then-n-lt64+else-all_in_range, else-n-lt64+else-not-in_range+else-start-n}

-- where the search begins, none before it is out of range, and one of the n values is
sought : (c : Joined-n-lt64) → NoneOut c.if-n-lt64.start c.args.values.now × SomeOut c.args.n c.args.values.now
sought c =
    elim c.if-n-lt64.branch [
      | then-n-lt64+else-all_in_range w ↦ (rw w.start-is (none_out_start _), some_out_first _ _ c.requires w.all_in_range.ensures w.if-all_in_range.false)
      | else-n-lt64+else-not-in_range+else-start-n w ↦ (rw w.start-is w.passed-start.ensures.none_before, w.passed-start.ensures.some_behind (omega arith))
    ]

pub returns-then-all_in_range : goal.returns-then-all_in_range
returns-then-all_in_range c =
    none_out_first _ _ c.requires (all_none_out _ _ _ c.all_in_range.ensures c.if-all_in_range.true)

pub returns-then-not-in_range : goal.returns-then-not-in_range
returns-then-not-in_range c =
    let value = get_or c.args.values.now 0 (pos 0) in
    none_out_at _ 0 _ (none_out_start _) (omega arith) (sym (tested value _ (omega arith) c.in_range.ensures) ∙ c.if-not-in_range.true)

pub search-requires-clause-none_before : goal.search-requires-clause-none_before
search-requires-clause-none_before c = (sought c).0

pub search-requires-clause-some_out : goal.search-requires-clause-some_out
search-requires-clause-some_out c = some_out_more _ _ _ c.requires (sought c).1

pub returns : goal.returns
returns c = first_out_found _ _ _ (sought ((goal.at.returns c).Joined-n-lt64)).1 c.search.ensures
