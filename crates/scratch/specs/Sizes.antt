-- Sizes: cell counts, units and places of a level, from those of the last one.
use Rattle.std.specs.Prelude.{◌≡◌, ℕ, suc, ◌+◌, ◌-◌, ◌*◌, ◌/◌, ◌^◌, ◌≤◌}
use Rattle.std.proofs.Common.{sym, ap, ◌∙◌, mul-le-mul, mul-le-mul_left, sub-add_cancel, arith, pow_mono, pow-add}
use Rattle.rules.specs.Grid.{cells_at, unit_at, controls}
use Rattle.rules.specs.Fit.{Shape, columns, rows, unit_of, Survey}
use Rattle.rules.specs.Calls.{K}
use Rattle.rules.proofs.Laws.Levels.{cells_double}
use Rattle.rules.proofs.Laws.Passed.{level_sides}
use Rattle.scratch.specs.Scratch.{Levelable, Celled, places}

-- ---- a level and the last one

-- a level has no more control values than one after it
fewer : (a : Shape) (j k : ℕ) → j ≤ k → places a j ≤ places a k
unfolding controls columns rows cells_at
fewer a j k l = mul-le-mul (side a.m0) (side a.n0)
  where
    side : (c : ℕ) → c * 2 ^ j + 3 ≤ c * 2 ^ k + 3
    side c = omega (arith, mul-le-mul_left c (pow_mono l))

pub unit_is : (a : Shape) (k : ℕ) → k ≤ a.h → 2 ^ (4 + a.h - k) ≡ unit_of a k
unfolding unit_of unit_at
unit_is a k l = let e : 4 + a.h - k ≡ 4 + (a.h - k) = omega arith in ap (λ (d : ℕ). 2 ^ d) e ∙ pow-add 2 4 (a.h - k)

-- every level has the same positions
pub span : (c h k : ℕ) → k ≤ h → unit_at h k * cells_at c k ≡ 16 * cells_at c h
unfolding unit_at cells_at
span c h k l = omega (arith, ap (λ (q : ℕ). c * q) (sym (pow-add 2 (h - k) k) ∙ ap (λ (d : ℕ). 2 ^ d) (sub-add_cancel l)))

-- ---- the cells of a level as the code has them

pub celled : {a : Shape} {s : Survey} {most W F k m n : ℕ} → Levelable a s most W F → k ≤ a.h → m ≡ cells_at a.m0 k → n ≡ cells_at a.n0 k → Celled a k most m n
unfolding K controls columns rows
celled {a = a} {k = k} p l m_is n_is =
    record {
      m_is = m_is;
      n_is = n_is;
      sides = rw (m_is, n_is) (level_sides a.m0 a.n0 k p.surveyed.sides (omega (arith, p.surveyed)));
      count = rw (m_is, n_is, p.most_is) (fewer a k a.h l);
      most_fits = p.most_fits;
    }

module _ {a : Shape} {k most m n : ℕ} (z : Celled a k most m n) where
  -- the code's count of control values is that of the rules
  pub count_is : (m + 3) * (n + 3) ≡ places a k
  unfolding controls
  count_is = rw (z.m_is, z.n_is)

  pub few : (j : ℕ) → j ≤ k → places a j ≤ most
  few j l = omega (arith, fewer a j k l, count_is, z.count)

  -- the level before has half as many
  module _ (j : ℕ) (next : k ≡ suc j) where
    pub doubled_columns : columns a k ≡ 2 * columns a j
    unfolding columns
    doubled_columns = rw next (cells_double a.m0 j)

    pub doubled_rows : rows a k ≡ 2 * rows a j
    unfolding rows
    doubled_rows = rw next (cells_double a.n0 j)

    pub half_columns : m / 2 ≡ columns a j
    half_columns = omega (arith, z.m_is, doubled_columns)

    pub half_rows : n / 2 ≡ rows a j
    half_rows = omega (arith, z.n_is, doubled_rows)
