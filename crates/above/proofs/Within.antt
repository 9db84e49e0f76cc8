-- The nodes of a rectangle as those of its strips: what strips have shown of rows and columns tells the answer.
use mathlib.Core.Path.{◌≡◌, refl, sym, ap, ap₂, ◌∙◌}
use mathlib.Core.Bool.{true, false}
use mathlib.Core.List.{List}
use Prim.Native.Nat.{ℕ, ◌+◌, ◌-◌, ◌*◌, ◌/◌, ◌%◌, ◌^◌, ◌≤◌, ◌<◌, min}
use native.Mathlib.Nat.{mul_comm, mul-le-mul_right, mul-add-div_right, mul-add-mod_self_right, mod-eq_of_lt, mod-lt, div-eq_of_lt, div-lt_iff_lt-mul}
use native.Mathlib.Decide.{dec_lt}
use native.Mathlib.Omega.{arith}
use lib.IntN.{ℤ}
use lib.Signed.{◌≤ℤ◌, ◌<ℤ◌}
use Rattle.rules.specs.Grid.{control}
use Rattle.rules.specs.Surface.{height}
use Rattle.rules.specs.Calls.{node_x, node_y, node_height}
use Rattle.rules.specs.Above.{any_above}
use Rattle.rules.proofs.Laws.AnyOf.{any_of_some, any_of_none}
use Rattle.rules.proofs.Laws.Above.{above_yes, above_no}
use Rattle.grid.specs.declared.Grid.{Grid}
use Rattle.nodes.specs.Nodes.{nodes_of}
use Rattle.nodes.specs.declared.Nodes.{Nodes}
use Rattle.strips.specs.Strips.{height_at}
use Rattle.strips.specs.declared.piece.Strip.{Strip}
use Rattle.bands.specs.Bands.{NodeAbove, NodesBelow}

-- the height at row j and column c
abbrev grid_height : Grid → List ℤ → Nodes → ℕ → ℕ → ℤ
grid_height grid l g j c = height (2 ^ grid.e) grid.cells.m grid.cells.n (control grid.cells.m l) (g.x0 + g.step * c) (g.y0 + g.step * j)

module _ (grid : Grid) (l : List ℤ) (g : Nodes) (stage : ℤ) where
  -- no node of the first `to` columns is above
  pub record ColumnsBelow (to : ℕ) : Type 0 where
    pub low : (j c : ℕ) → j < g.rows → c < to → grid_height grid l g j c ≤ℤ stage

  abbrev node_at : ℕ → ℤ
  node_at q = node_height grid.cells.m grid.cells.n (2 ^ grid.e) l (nodes_of g) q

  -- nodes by their rows and columns: node j · columns + c, and back
  at_node : (j c : ℕ) → c < g.columns → node_at (j * g.columns + c) ≡ grid_height grid l g j c
  unfolding node_x node_y
  at_node j c h =
      ap₂ (λ p q. height (2 ^ grid.e) grid.cells.m grid.cells.n (control grid.cells.m l) (g.x0 + g.step * p) (g.y0 + g.step * q))
      (mul-add-mod_self_right j g.columns c ∙ mod-eq_of_lt h)
      (mul-add-div_right {m = g.columns} (omega arith) j c ∙ ap (λ (q : ℕ). j + q) (div-eq_of_lt h) ∙ omega arith)

  pub some_above : (j c : ℕ) → j < g.rows → c < g.columns → stage <ℤ grid_height grid l g j c
      → true ≡ any_above grid.cells.m grid.cells.n (2 ^ grid.e) l (nodes_of g) stage
  unfolding any_above
  some_above j c h k high =
      let q = j * g.columns + c in
      sym (any_of_some (g.columns * g.rows) q _ (omega (arith, mul-le-mul_right g.columns h, mul_comm g.rows g.columns)) (above_yes stage (node_at q) (rw (at_node j c k) high)))

  pub none_above : ColumnsBelow g.columns → false ≡ any_above grid.cells.m grid.cells.n (2 ^ grid.e) l (nodes_of g) stage
  unfolding any_above node_x node_y
  none_above below = sym (any_of_none (g.columns * g.rows) _ (λ q h. above_no stage (node_at q) (here q h (dec_lt 0 g.columns))))
    where
      here : (q : ℕ) → q < g.columns * g.rows → Dec (0 < g.columns) → node_at q ≤ℤ stage
      here q h (yes c) =
          below.low (q / g.columns) (q % g.columns) ((div-lt_iff_lt-mul {k = g.columns} c).1 (rw (mul_comm g.rows g.columns) h)) (mod-lt q c)
      here q h (no c) = let none : g.columns ≡ 0 = omega arith in absurd (omega (arith, rw none at h))

  pub no_rows : g.rows ≡ 0 → false ≡ any_above grid.cells.m grid.cells.n (2 ^ grid.e) l (nodes_of g) stage
  no_rows e = none_above (record { low = λ j c h k. absurd (omega (arith, e, h)) })

-- ---- one strip

-- its heights are the grid's
by_fields : {a grid : Grid} (l : List ℤ) {h g : Nodes} {from column : ℕ} → a ≡ grid → h ≡ g → from ≡ column → (j i : ℕ)
    → grid_height a l h j (from + i) ≡ grid_height grid l g j (column + i)
by_fields l p q r j i = rw (p, q, r) refl

module _ (grid : Grid) (l : List ℤ) (g : Nodes) (stage : ℤ) (column : ℕ) (s : Strip)
    (is : (s.grid ≡ grid) × (s.nodes ≡ g) × (s.column ≡ column) × (s.w ≡ min (g.columns - column) 64)) (starts : column < g.columns) where
  same : (j i : ℕ) → height_at s l j (s.column + i) ≡ grid_height grid l g j (column + i)
  same = by_fields l is.0 is.1 is.2

  rows : s.nodes.rows ≡ g.rows
  rows = ap (λ (g : Nodes). g.rows) is.1

  pub strip_high : {z : ℤ} → z ≡ stage → NodeAbove s l z 0 s.nodes.rows 0 s.w → true ≡ any_above grid.cells.m grid.cells.n (2 ^ grid.e) l (nodes_of g) stage
  strip_high here a =
      some_above grid l g stage a.j (column + a.i) (rw rows at a.j_b) (omega (arith, is.3, a.i_to, starts)) (rw (same a.j a.i, here) at a.high)

  pub strip_low : ColumnsBelow grid l g stage (min column g.columns) → NodesBelow s l stage 0 s.nodes.rows 0 s.w → ColumnsBelow grid l g stage (min (column + 64) g.columns)
  strip_low had b =
      record {
        low = λ j c h k.
            elim (dec_lt c column) [
              | yes d ↦ had.low j c h (omega arith)
              | no d ↦
                  let i = c - column in
                  let place : column + i ≡ c = omega arith in
                  rw (same j i, place) at (b.low j i (omega arith) (rw rows h) (omega arith) (omega (arith, is.3)))
            ];
      }

-- after the last strip, of the stage that the bits stand for
pub all_below : (grid : Grid) (l : List ℤ) (g : Nodes) {z stage : ℤ} (to : ℕ) → z ≡ stage → g.columns ≤ to
    → ColumnsBelow grid l g z (min to g.columns) → false ≡ any_above grid.cells.m grid.cells.n (2 ^ grid.e) l (nodes_of g) stage
all_below grid l g to is h had = none_above grid l g _ (record { low = λ j c k i. rw is at (had.low j c k (omega arith)) })
