-- A raster at a given step does not depend on what step 0 stands for.
use Rattle.std.specs.Prelude.{◌≡◌, List, ℕ, zero, suc, ◌<◌, ℤ}
use Rattle.std.proofs.Math.Path.{refl}
use Rattle.std.proofs.Common.{not-suc-le-zero}
use Rattle.rules.specs.Answers.{Outcome}
use Rattle.rules.specs.Calls.{nodes_at, step_of, raster_call}

-- a step above 0 stands for itself, whatever 0 stands for
pub step_given : (d s : ℕ) → 0 < s → step_of d s ≡ s
unfolding step_of
step_given d zero h = absurd (not-suc-le-zero h)
step_given d (suc s) h = refl

module _ (m n U : ℕ) (l : List ℤ) (x0 y0 across down : ℕ) (output : List ℤ) where
  -- the raster of a caller's step where 0 stands for d: its answer, and what it leaves
  abbrev pub raster_where : ℕ → ℕ → Outcome ℕ (List ℤ)
  raster_where d step = raster_call m n U l (nodes_at x0 y0 (step_of d step) across down) output

  -- at a given step it is the same for any two defaults
  pub given_raster : (d d' step : ℕ) → 0 < step → raster_where d step ≡ raster_where d' step
  given_raster d d' step h = rw (step_given d step h, step_given d' step h) refl

  -- what 0 stood for, given in its place, has the raster that 0 had, whatever 0 stands for since
  pub given_default : (d d' : ℕ) → 0 < d → raster_where d' d ≡ raster_where d 0
  unfolding step_of
  given_default d d' h = rw (step_given d' d h) refl
