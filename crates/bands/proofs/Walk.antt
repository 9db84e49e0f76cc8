-- The walk over a strip's bands: what is known between two bands, and what a band adds to it.
use mathlib.Core.Path.{◌≡◌, refl}
use mathlib.Core.List.{List}
use Prim.Native.Nat.{ℕ, ◌+◌, ◌-◌, ◌*◌, ◌%◌, ◌^◌, ◌≤◌, ◌<◌}
use native.Mathlib.Nat.{mul-le-mul_left, mul-le-mul_right, mul_comm}
use native.Mathlib.Decide.{dec_lt}
use native.Mathlib.Omega.{arith}
use lib.IntN.{ℤ}
use lib.ListN.{length, get_or, take}
use lib.Pow.{pow_pos}
use Rattle.std.proofs.lemmas.List.{get_or-take, length-take}
use Rattle.rules.specs.Grid.{controls, control}
use Rattle.rules.specs.Surface.{cell}
use Rattle.basis.specs.Weighing.{Grounded}
use Rattle.basis.specs.declared.Basis.{Basis}
use Rattle.rules.proofs.Laws.Basis.{cell_below, cell_mono}
use Rattle.rules.proofs.Laws.Surface.{height_most}
use Rattle.below.specs.Below.{first_cell, past_cells, RowsBelow, Rising, Apart, CellsBelow}
use Rattle.below.specs.declared.Due.{Due}
use Rattle.below.specs.declared.High.{High}
use Rattle.below.specs.declared.Looked.{Looked}
use Rattle.strips.specs.Strips.{column_x, Taps, Ringed, row_cell}
use Rattle.strips.specs.declared.piece.Strip.{Strip}
use Rattle.bands.specs.Bands.{RowsInside, Band, NodeAbove, NodesBelow, Threshold}
use Rattle.bands.specs.declared.Kept.{Kept}

-- ---- the cells of a strip's columns

pub record CellsOf (s : Strip) (cells : List ℕ) : Type 0 where
  pub many : length cells ≡ s.w
  pub cell_is : (i : ℕ) → i < s.w → get_or cells i 0 ≡ cell (2 ^ s.grid.e) s.grid.cells.m (column_x s i)

-- those that are stored
pub cells_of : (s : Strip) (cells : List ℕ) (taps : List Basis) → length cells ≡ 64 → Taps s s.w cells taps → CellsOf s (take s.w cells)
cells_of s cells taps e t =
    record { many = simp length-take (omega (arith, e, s.inside.width)); cell_is = λ i h. rw (get_or-take s.w cells i 0 h) (t i h).cell_is }

module _ (s : Strip) {cells : List ℕ} (t : CellsOf s cells) where
  cell_inside : (i : ℕ) → i < s.w → get_or cells i 0 < s.grid.cells.m
  cell_inside i h = rw (t.cell_is i h) (cell_below (2 ^ s.grid.e) s.grid.cells.m (column_x s i) s.grid.gridded.m_some)

  -- a later column lies in no earlier cell
  cells_rise : (i j : ℕ) → i ≤ j → j < s.w → get_or cells i 0 ≤ get_or cells j 0
  cells_rise i j h k =
      let l : i < s.w = omega arith in
      let later : s.column + i ≤ s.column + j = omega arith in
      rw (t.cell_is i l, t.cell_is j k)
      (cell_mono (2 ^ s.grid.e) s.grid.cells.m (column_x s i) (column_x s j) (pow_pos s.grid.e) (omega (arith, mul-le-mul_left s.nodes.step later)))

  pub rising : Rising cells
  rising =
      record {
        most = λ i h. omega (arith, cell_inside i (rw t.many at h), s.grid.gridded.m_most);
        rise = λ i j h k. cells_rise i j h (rw t.many at k);
      }

  -- the lattice's columns that the strip reads
  past_last : past_cells cells ≡ get_or cells (s.w - 1) 0 + 4
  past_last = rw t.many refl

  pub span : 0 < s.w → past_cells cells ≤ s.grid.cells.m + 3
  span some = let last : s.w - 1 < s.w = omega (arith, some) in omega (arith, past_last, cell_inside (s.w - 1) last)

  -- what the four lattice rows of cell row k have told of the columns that are not due
  module _ {l : List ℤ} {stage : ℤ} (k : ℕ) {highs : List High}
      (rows : RowsBelow stage s.grid.cells.m l (first_cell cells) (past_cells cells) (k + 4) (k + 4) highs)
      {from to : ℕ} (apart : Apart cells highs from to) where
    pub cells_before : from ≤ length cells → CellsBelow stage s.grid.cells.m l cells k 0 from
    cells_before w = record {
      low = λ i h n. record {
        low = λ c u a b d e.
            (rows.row u (omega arith) e).before c (omega (arith, a, cells_rise 0 i (omega arith) (omega (arith, n, w, t.many)))) (omega (arith, b, apart.before i (u % 4) n (omega arith)));
      };
    }

    pub cells_behind : CellsBelow stage s.grid.cells.m l cells k to s.w
    cells_behind = record {
      low = λ i h n. record {
        low = λ c u a b d e.
            (rows.row u (omega arith) e).behind c (omega (arith, a, apart.behind i (u % 4) h (rw t.many n) (omega arith))) (omega (arith, b, past_last, cells_rise i (s.w - 1) (omega (arith, n)) (omega (arith, n))));
      };
    }

  -- "Where all sixteen control values of a cell are at or below the stage, its nodes needn't be worked out"
  pub cells_low : {l : List ℤ} {stage : ℤ} {k a b from to : ℕ} → CellsBelow stage s.grid.cells.m l cells k from to → to ≤ s.w → Band s k a b → RowsInside s b
      → NodesBelow s l stage a b from to
  cells_low {l} {stage} {k} below w band rows =
      record {
        low = λ j i h n f o.
            let g = s.grid.gridded in
            let i-w : i < s.w = omega (arith, o, w) in
            let column = t.cell_is i i-w in
            height_most (2 ^ s.grid.e) s.grid.cells.m s.grid.cells.n (column_x s i) (s.nodes.y0 + s.nodes.step * j)
            (record { unit = pow_pos s.grid.e; across = g.m_some; up = g.n_some; x_inside = s.inside.along_x i i-w; y_inside = rows.inside j n })
            (control s.grid.cells.m l) stage
            (λ p q c d u v. (below.low i f o).low p q (rw column c) (rw column d) (rw (← band.one j h n) u) (rw (← band.one j h n) v));
      }

-- the four lattice rows of a cell are stored
pub rows_stored : (s : Strip) {l : List ℤ} → Grounded s.grid.cells.m s.grid.cells.n s.grid.e l → (k : ℕ) → k < s.grid.cells.n → (k + 4) * (s.grid.cells.m + 3) ≤ length l
unfolding controls
rows_stored s g k h =
    let most : k + 4 ≤ s.grid.cells.n + 3 = omega arith in
    omega (arith, mul-le-mul_right (s.grid.cells.m + 3) most, mul_comm (s.grid.cells.m + 3) (s.grid.cells.n + 3), g.long)

-- ---- nodes side by side

module _ {s : Strip} {l : List ℤ} {stage : ℤ} where
  pub columns_cover : {a b c x y d : ℕ} → y ≤ x → NodesBelow s l stage a b c x → NodesBelow s l stage a b y d → NodesBelow s l stage a b c d
  columns_cover {x = x} h first second =
      record { low = λ j i m n f o. elim (dec_lt i x) [ yes k ↦ first.low j i m n f k | no k ↦ second.low j i m n (omega arith) o ] }

  pub rows_cover : {a x b c d : ℕ} → NodesBelow s l stage a x c d → NodesBelow s l stage x b c d → NodesBelow s l stage a b c d
  rows_cover {x = x} first second =
      record { low = λ j i m n f o. elim (dec_lt j x) [ yes k ↦ first.low j i m k f o | no k ↦ second.low j i (omega arith) n f o ] }

  -- a node of some rows and columns is one of more
  pub node_among : {a b from to rows w : ℕ} → b ≤ rows → to ≤ w → NodeAbove s l stage a b from to → NodeAbove s l stage 0 rows 0 w
  node_among h k n = record { j = n.j; i = n.i; a_j = omega arith; j_b = omega (arith, n.j_b); from_i = omega arith; i_to = omega (arith, n.i_to); high = n.high }

-- ---- from band to band

-- before row j: the lattice rows that are looked at, the ring, and no node above the stage
pub record Walked (s : Strip) (l : List ℤ) (stage : ℤ) (left right : ℕ) (seen : Looked) (kept : Kept) (ring : List ℤ) (j : ℕ) : Type 0 where
  pub rows : RowsBelow stage s.grid.cells.m l left right seen.next seen.next seen.highs
  pub seen_most : (k : ℕ) → j ≤ k → seen.next ≤ row_cell s k + 4
  pub held : Ringed s l kept.from kept.to kept.next kept.next ring
  pub kept_most : (k : ℕ) → j ≤ k → kept.next ≤ row_cell s k + 4
  pub low : NodesBelow s l stage 0 j 0 s.w

-- later rows lie in no earlier cells
pub next_past : (s : Strip) (j : ℕ) {k end : ℕ} → k ≡ row_cell s j → j ≤ end → (i : ℕ) → end ≤ i → k + 4 ≤ row_cell s i + 4
next_past s j at h i n =
    let later : j ≤ i = omega arith in
    omega (arith, at, cell_mono (2 ^ s.grid.e) s.grid.cells.n (s.nodes.y0 + s.nodes.step * j) (s.nodes.y0 + s.nodes.step * i) (pow_pos s.grid.e) (omega (arith, mul-le-mul_left s.nodes.step later)))

-- the numbers that bits stand for
pub threshold_of : {stage most z v : ℤ} {e : ℕ} → z ≡ stage → v ≡ most → Threshold stage e most → Threshold z e v
threshold_of p q t = rw (p, q) t

-- the band of rows j to end - 1, in cell row k
module _ (s : Strip) {l : List ℤ} {cells : List ℕ} (t : CellsOf s cells) {stage : ℤ} {left right : ℕ} {seen : Looked} {kept : Kept} {ring : List ℤ} {j : ℕ}
    (had : Walked s l stage left right seen kept ring j) {k end : ℕ} (at : k ≡ row_cell s j) (some : j < end) (band : Band s k j end) (inside : RowsInside s end)
    {now-seen : Looked} (looked : (now-seen.next ≡ k + 4) × RowsBelow stage s.grid.cells.m l left right (k + 4) (k + 4) now-seen.highs)
    {due : Due} (from-most : due.from ≤ s.w) (to-most : due.to ≤ s.w) (before : CellsBelow stage s.grid.cells.m l cells k 0 due.from) (behind : CellsBelow stage s.grid.cells.m l cells k due.to s.w) where
  later : (i : ℕ) → end ≤ i → k + 4 ≤ row_cell s i + 4
  later = next_past s j at (omega arith)

  -- none of its columns is due
  pub passed_over : due.to ≤ due.from → Walked s l stage left right now-seen kept ring end
  passed_over none = record {
    rows = rw looked.0 looked.1;
    seen_most = λ i h. omega (arith, looked.0, later i h);
    held = had.held;
    kept_most = λ i h. had.kept_most i (omega arith);
    low = rows_cover had.low (columns_cover none (cells_low s t before from-most band inside) (cells_low s t behind (omega arith) band inside));
  }

  -- those due are worked out, and the ring holds them
  pub worked_out : NodesBelow s l stage j end due.from due.to → {now : Kept} {after : List ℤ} → now.from ≡ due.from → now.to ≡ due.to → now.next ≡ k + 4
      → Ringed s l due.from due.to (k + 4) (k + 4) after → Walked s l stage left right now-seen now after end
  worked_out low f u next held = record {
    rows = rw looked.0 looked.1;
    seen_most = λ i h. omega (arith, looked.0, later i h);
    held = rw (f, u, next) held;
    kept_most = λ i h. omega (arith, next, later i h);
    low = rows_cover had.low
        (columns_cover (omega arith) (columns_cover (omega arith) (cells_low s t before from-most band inside) low) (cells_low s t behind (omega arith) band inside));
  }
