-- What is at or below a stage: values, the control values of a lattice row, those of the cells of a strip's columns.
use Rattle.std.specs.Prelude.{◌≡◌, List, ℕ, ◌+◌, ◌-◌, ◌%◌, ◌≤◌, ◌<◌, ℤ, pos, length, get_or, ◌≤ℤ◌}
use Rattle.rules.specs.Grid.{control}
use Rattle.below.specs.declared.High.{High}

-- those at places q to `end` - 1
pub record ValuesBelow (stage : ℤ) (values : List ℤ) (q end : ℕ) : Type 0 where
  pub low : (i : ℕ) → q ≤ i → i < end → get_or values i (pos 0) ≤ℤ stage

-- of lattice row t, in columns `left` to `right` - 1, those before column `first` and from column `end` on
pub record RowBelow (stage : ℤ) (m : ℕ) (lattice : List ℤ) (left right t : ℕ) (high : High) : Type 0 where
  pub before : (s : ℕ) → left ≤ s → s < high.first → control m lattice s t ≤ℤ stage
  pub behind : (s : ℕ) → high.end ≤ s → s < right → control m lattice s t ≤ℤ stage

-- what a list of rows has at place i
abbrev pub high_at : List High → ℕ → High
high_at highs i = get_or highs i (record { first = 0; end = 0 })

-- so it is of those of the four lattice rows before `last` that are before `next`, row t by place t mod 4 of a list
pub record RowsBelow (stage : ℤ) (m : ℕ) (lattice : List ℤ) (left right last next : ℕ) (highs : List High) : Type 0 where
  pub four : length highs ≡ 4
  pub row : (t : ℕ) → last ≤ t + 4 → t < next → RowBelow stage m lattice left right t (high_at highs (t % 4))

-- the lattice's columns that cells read: from the first cell's to one past the last cell's
abbrev pub first_cell : List ℕ → ℕ
first_cell cells = get_or cells 0 0

abbrev pub past_cells : List ℕ → ℕ
past_cells cells = get_or cells (length cells - 1) 0 + 4

-- the cells of a strip's columns: one of 512 each, and of a later column no earlier one
pub record Rising (cells : List ℕ) : Type 0 where
  pub most : (i : ℕ) → i < length cells → get_or cells i 0 < 512
  pub rise : (i j : ℕ) → i ≤ j → j < length cells → get_or cells i 0 ≤ get_or cells j 0

-- the cells of a strip's columns before `from` end before the first of four lattice rows' values above the stage, and those from `to` on begin behind the last
pub record Apart (cells : List ℕ) (highs : List High) (from to : ℕ) : Type 0 where
  pub before : (i j : ℕ) → i < from → j < 4 → get_or cells i 0 + 4 ≤ (high_at highs j).first
  pub behind : (i j : ℕ) → to ≤ i → i < length cells → j < 4 → (high_at highs j).end ≤ get_or cells i 0

-- the sixteen control values of the cell in column c and row k
pub record CellBelow (stage : ℤ) (m : ℕ) (lattice : List ℤ) (c k : ℕ) : Type 0 where
  pub low : (s t : ℕ) → c ≤ s → s < c + 4 → k ≤ t → t < k + 4 → control m lattice s t ≤ℤ stage

-- the cells in row k of a strip's columns `from` to `to` - 1
pub record CellsBelow (stage : ℤ) (m : ℕ) (lattice : List ℤ) (cells : List ℕ) (k from to : ℕ) : Type 0 where
  pub low : (i : ℕ) → from ≤ i → i < to → CellBelow stage m lattice (get_or cells i 0) k
