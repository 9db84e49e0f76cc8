-- Each refusal is decided by the test that led to it, after the checks that passed before.
use Rattle.std.proofs.Common.{◌≡◌, ℕ, ◌*◌, Bool, true, false, leb, List, length, sym, ap, ◌∙◌, arith}
use Rattle.std.proofs.Math.Option.{none, some}
use Rattle.std.proofs.lemmas.Bool.{le-leb, lt-leb}
use Rattle.std.specs.Prelude.{ℤ, ◌≤◌}
use Rattle.rules.specs.Grid.{within}
use Rattle.rules.specs.Answers.{short, side, require, ◌then◌}
use Rattle.rules.specs.Calls.{counts_check}
use Rattle.rules.specs.Storage.{side_check, pond_check}
use Rattle.rules.proofs.Laws.Checks.{then_none}
use Rattle.storage.proofs.pond_checks.Goals as goal

-- ---- the check, by what was found

module _ (columns rows : ℕ) (heights : List ℤ) (s : ℕ) where
  abbrev room : Bool
  room = leb (columns * rows) (length heights)

  module _ (counted : counts_check columns rows ≡ none) where
    behind : pond_check columns rows heights s ≡ (require room short then side_check s)
    unfolding pond_check
    behind = then_none (counts_check columns rows) _ counted

    by_room : room ≡ false → some short ≡ pond_check columns rows heights s
    unfolding require ◌then◌
    by_room e = sym (behind ∙ ap (λ b. require b short then side_check s) e)

    by_side : {b : Bool} → room ≡ true → within 1 100 s ≡ b → require b side ≡ pond_check columns rows heights s
    unfolding side_check require ◌then◌
    by_side e f = sym (behind ∙ ap (λ b. require b short then side_check s) e ∙ ap (λ b. require b side) f)

counted : (columns rows : ℕ) → columns ≤ 8_193 → rows ≤ 8_193 → counts_check columns rows ≡ none
unfolding counts_check require
counted columns rows h k = simp (le-leb columns 8_193 h, le-leb rows 8_193 k)

-- ---- what it finds

pub returns-then-columns-gt8193 : goal.returns-then-columns-gt8193
unfolding pond_check counts_check require ◌then◌
returns-then-columns-gt8193 c = simp (lt-leb _ 8_193 c.if-columns-gt8193.true)

pub returns-then-rows-gt8193 : goal.returns-then-rows-gt8193
unfolding pond_check counts_check require ◌then◌
returns-then-rows-gt8193 c = simp (le-leb _ 8_193 c.if-columns-gt8193.false, lt-leb _ 8_193 c.if-rows-gt8193.true)

pub returns-then-heights-columns : goal.returns-then-heights-columns
returns-then-heights-columns c =
    let a = c.args in
    by_room a.columns a.rows a.heights.now a.side (counted a.columns a.rows (omega arith) (omega arith))
    (lt-leb (a.columns * a.rows) (length a.heights.now) (omega arith))

pub returns-then-not-within : goal.returns-then-not-within
unfolding require
returns-then-not-within c =
    let a = c.args in
    by_side a.columns a.rows a.heights.now a.side (counted a.columns a.rows (omega arith) (omega arith))
    (le-leb (a.columns * a.rows) (length a.heights.now) (omega arith)) (sym c.if-not-within.ensures)

pub returns : goal.returns
unfolding require
returns c =
    let a = c.args in
    by_side a.columns a.rows a.heights.now a.side (counted a.columns a.rows (omega arith) (omega arith))
    (le-leb (a.columns * a.rows) (length a.heights.now) (omega arith)) (sym c.if-not-within.ensures)
