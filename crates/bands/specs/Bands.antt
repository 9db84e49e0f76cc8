-- What the contracts of a strip's bands cite.
use Rattle.std.specs.Prelude.{◌≡◌, ◌↔◌, Bool, true, false, List, ℕ, ◌+◌, ◌*◌, ◌^◌, ◌≤◌, ◌<◌, ℤ, ◌≤ℤ◌, ◌<ℤ◌}
use Rattle.std.proofs.Common.{true≢false}
use Rattle.std.proofs.lemmas.Bool.{false≢true}
use Rattle.rules.specs.Rounding.{near}
use Rattle.rules.specs.Surface.{denominator}
use Rattle.basis.specs.declared.Basis.{Basis}
use Rattle.below.specs.declared.Due.{Due}
use Rattle.strips.specs.Strips.{Ringed, row_cell, node_sum, height_at}
use Rattle.strips.specs.declared.piece.Strip.{Strip}

-- ---- rows of nodes

-- the first `rows` rows are on the grid
pub record RowsInside (s : Strip) (rows : ℕ) : Type 0 where
  pub inside : (j : ℕ) → j < rows → s.nodes.y0 + s.nodes.step * j ≤ 2 ^ s.grid.e * s.grid.cells.n

-- rows `start` to `end` - 1 lie in cell row `cell`
pub record Band (s : Strip) (cell start end : ℕ) : Type 0 where
  pub one : (j : ℕ) → start ≤ j → j < end → row_cell s j ≡ cell

-- ---- a yes or no

-- a yes has shown the one, a no the other
pub record Decided (Yes No : Type 0) (answer : Bool) : Type 0 where
  pub yes : answer ≡ true → Yes
  pub no : answer ≡ false → No

pub said_yes : {Yes No : Type 0} → Yes → Decided Yes No true
said_yes y = record { yes = λ e. y; no = λ e. absurd (true≢false e) }

pub said_no : {Yes No : Type 0} → No → Decided Yes No false
said_no n = record { yes = λ e. absurd (false≢true e); no = λ e. n }

-- a node of rows a to b - 1 and of the strip's columns `from` to `to` - 1 is above the stage
pub record NodeAbove (s : Strip) (lattice : List ℤ) (stage : ℤ) (a b from to : ℕ) : Type 0 where
  pub j : ℕ
  pub i : ℕ
  pub a_j : a ≤ j
  pub j_b : j < b
  pub from_i : from ≤ i
  pub i_to : i < to
  pub high : stage <ℤ height_at s lattice j (s.column + i)

-- none of them is
pub record NodesBelow (s : Strip) (lattice : List ℤ) (stage : ℤ) (a b from to : ℕ) : Type 0 where
  pub low : (j i : ℕ) → a ≤ j → j < b → from ≤ i → i < to → height_at s lattice j (s.column + i) ≤ℤ stage

-- ---- by y sums

-- `most` is the greatest sum whose height is not above the stage
pub record Threshold (stage : ℤ) (e : ℕ) (most : ℤ) : Type 0 where
  pub from : (v : ℤ) → (stage <ℤ near v (denominator (2 ^ e))) ↔ (most <ℤ v)

pub record SumAbove (b : Basis) (ring : List ℤ) (cell from to : ℕ) (most : ℤ) : Type 0 where
  pub i : ℕ
  pub from_i : from ≤ i
  pub i_to : i < to
  pub high : most <ℤ node_sum b ring cell i

pub record SumsBelow (b : Basis) (ring : List ℤ) (cell from to : ℕ) (most : ℤ) : Type 0 where
  pub low : (i : ℕ) → from ≤ i → i < to → node_sum b ring cell i ≤ℤ most

abbrev pub SumsDecided : Basis → List ℤ → ℕ → ℕ → ℕ → ℤ → Bool → Type 0
SumsDecided b ring cell from to most answer = Decided (SumAbove b ring cell from to most) (SumsBelow b ring cell from to most) answer

-- whatever lattice the ring has the sums of, and whatever stage `most` stands for
abbrev pub BandDecided : Strip → List ℤ → ℕ → Due → ℕ → ℕ → ℤ → Bool → Type 0
BandDecided s ring cell due start end most answer =
    (l : List ℤ) (stage : ℤ) → Ringed s l due.from due.to (cell + 4) (cell + 4) ring → Threshold stage s.grid.e most
    → Decided (NodeAbove s l stage start end due.from due.to) (NodesBelow s l stage start end due.from due.to) answer
