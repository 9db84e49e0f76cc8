-- Each refusal names the first node outside.
use Rattle.std.proofs.Common.{arith}
use Rattle.nodes.proofs.First.{no_columns, no_rows, first_past_right, first_past_top, row_past_right, column_past_top, all_inside}
use Rattle.nodes.proofs.Nodes.positions.Goals as goal

pub returns-then-self-eq0 : goal.returns-then-self-eq0
returns-then-self-eq0 c = no_columns _ _ _ _ _ _ _ c.if-self-eq0.true

pub returns-then-self-eq0-2 : goal.returns-then-self-eq0-2
returns-then-self-eq0-2 c = no_rows _ _ _ _ _ _ _ c.if-self-eq0-2.true

pub returns-then-right-self : goal.returns-then-right-self
returns-then-right-self c = first_past_right _ _ _ _ _ _ _ c.requires.2 (omega arith) (omega arith) c.if-right-self.true

pub returns-then-top-self : goal.returns-then-top-self
returns-then-top-self c =
    first_past_top _ _ _ _ _ _ _ c.requires.2 (omega arith) (omega arith) c.if-right-self.false c.if-top-self.true

pub returns-then-across-self : goal.returns-then-across-self
returns-then-across-self c =
    row_past_right _ _ _ _ _ _ _ c.requires.2 (omega arith) (omega arith) c.if-right-self.false c.if-top-self.false c.if-across-self.true

pub returns-then-down-self : goal.returns-then-down-self
returns-then-down-self c =
    column_past_top _ _ _ _ _ _ _ c.requires.2 (omega arith) (omega arith) c.if-right-self.false c.if-top-self.false c.if-across-self.false c.if-down-self.true

pub returns : goal.returns
returns c =
    all_inside _ _ _ _ _ _ _ c.requires.2 (omega arith) (omega arith) c.if-right-self.false c.if-top-self.false c.if-across-self.false c.if-down-self.false
