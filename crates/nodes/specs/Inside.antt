-- What the checks of nodes have shown where they refuse nothing.
use Rattle.std.specs.Prelude.{◌≡◌, ◌&&◌, ℕ, ◌+◌, ◌*◌, ◌≤◌, ◌<◌, leb}
use Rattle.std.proofs.Math.Option.{none}
use Rattle.std.proofs.Common.{mod-eq_of_lt, mul_comm, mul-div_cancel, mul-le-mul_right, lt_of_lt_of_le, arith, leb→le}
use Rattle.std.proofs.Math.Facts.{and_yes}
use Rattle.rules.specs.Answers.{size, position, require}
use Rattle.rules.specs.Calls.{Nodes, node_x, node_y, counts_check, size_check, node_check, nodes_check}
use Rattle.rules.proofs.Laws.Checks.{required, then_rest, first_of_none}
use Rattle.rules.proofs.Laws.Passed.{counts_passed}

pub size_passed : (step columns rows : ℕ) → size_check step columns rows ≡ none → (columns ≤ 8_193) × (rows ≤ 8_193)
unfolding size_check
size_passed step columns rows h = counts_passed columns rows (then_rest (require (leb step 8_192) size) (counts_check columns rows) h)

-- all nodes lie at most at right and top, if there are any
pub record NodesInside (right top : ℕ) (g : Nodes) : Type 0 where
  pub along_x : 0 < g.down → (c : ℕ) → c < g.across → g.x0 + g.step * c ≤ right
  pub along_y : 0 < g.across → (j : ℕ) → j < g.down → g.y0 + g.step * j ≤ top

pub nodes_inside : (right top : ℕ) (g : Nodes) → nodes_check right top g ≡ none → NodesInside right top g
unfolding nodes_check node_check node_x node_y
nodes_inside right top g h =
    record {
      along_x = λ down c l. rw (mod-eq_of_lt l) at (each c (lt_of_lt_of_le l (rw (mul_comm g.across g.down) (omega (arith, mul-le-mul_right g.across down))))).0;
      along_y = λ across j l. rw (mul-div_cancel j across) at (each (j * g.across) (rw (mul_comm g.across g.down) (omega (arith, mul-le-mul_right g.across l)))).1;
    }
  where
    each : (q : ℕ) → q < g.across * g.down → (node_x g q ≤ right) × (node_y g q ≤ top)
    each q l =
        let a = leb (node_x g q) right in
        let b = leb (node_y g q) top in
        let p = and_yes a b (required (a && b) (position q) (first_of_none (g.across * g.down) (node_check right top g) h q l)) in
        (leb→le (node_x g q) right p.0, leb→le (node_y g q) top p.1)
