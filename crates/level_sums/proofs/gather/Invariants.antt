-- The sums now are those of the first i points.
use Rattle.std.proofs.Common.{◌≡◌, ℕ, ◌^◌, List}
use Rattle.std.specs.Prelude.{Float}
use Rattle.algebra.specs.Table.{tabulate, over}
use Rattle.rules.specs.Fit.{Survey, point_at}
use Rattle.survey.specs.Survey.{survey_of}
use Rattle.level_sums.specs.Gathered.{sum_table}
use Rattle.level_sums.proofs.gather.Given as goal

-- the sums of the first i points, laid over a slice
abbrev pub first : ℕ → ℕ → ℕ → Survey → ℕ → List Float → List Float
first m n e s i d = over (sum_table (2 ^ e) m n (tabulate i (point_at s))) d

abbrev pub invariant-loop-i : goal.invariant-loop-i
invariant-loop-i l = l.sums ≡ first l.grid.cells.m l.grid.cells.n l.grid.e (survey_of l.points) l.i l.fn.sums
