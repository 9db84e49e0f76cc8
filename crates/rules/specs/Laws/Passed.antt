-- What the laws of `proofs/Laws/Passed` speak of.
use Rattle.std.specs.Prelude.{ℕ, ◌*◌, ◌≤◌, ◌<◌, ◌≡◌, nat_abs, length}
use Rattle.std.proofs.Math.Option.{none}
use Rattle.algebra.specs.Table.{over}
use Rattle.rules.specs.Grid.{limit}
use Rattle.rules.specs.Fit.{Shape, Survey, point_count, point_at, single_lattice}
use Rattle.rules.specs.Calls.{CellCounts, Lent, fit_check, finest, fit_call}

-- ---- cell counts, and U

-- 1 to `most` cells a side
abbrev pub Sides : ℕ → ℕ → ℕ → Type 0
Sides most m n = (1 ≤ m) × (m ≤ most) × (1 ≤ n) × (n ≤ most)

-- ---- cells that heights can be read on and levels fitted to

-- m by n cells of 2^e positions, as many and as wide as document 01 has them at most
pub record Gridded (m n e : ℕ) : Type 0 where
  pub m_some : 0 < m
  pub m_most : m ≤ 512
  pub n_some : 0 < n
  pub n_most : n ≤ 512
  pub e_most : e ≤ 9

-- ---- a survey

pub record Surveyed (a : Shape) (s : Survey) : Type 0 where
  pub sides : Sides 16 a.m0 a.n0
  pub levels_most : a.h ≤ 5
  pub as_many_y : length s.ys ≡ point_count s
  pub as_many_z : length s.zs ≡ point_count s
  pub as_many_q : length s.qs ≡ point_count s
  pub points_most : point_count s ≤ 65_535

-- a point on m by n cells of U positions, with a value in range and a confidence
pub record Placed (U m n : ℕ) (s : Survey) (i : ℕ) : Type 0 where
  pub x_inside : (point_at s i).x ≤ U * m
  pub y_inside : (point_at s i).y ≤ U * n
  pub z_size : nat_abs (point_at s i).z ≤ limit
  pub q_some : 1 ≤ (point_at s i).q
  pub q_most : (point_at s i).q ≤ 255

-- ---- what the answer of a fit tells

pub record FitAccepted (a : Shape) (s : Survey) (lent : Lent) (k : CellCounts) : Type 0 where
  pub unrefused : fit_check a s lent ≡ none
  pub counts : finest a ≡ k
  pub lattice_is : (fit_call a s lent).slices.lattice ≡ over (single_lattice a s) lent.lattice
