-- A raster as it is promised: what an accepted call of `raster` leaves, in the words of its contract; and what of it storage can then refuse.
use Rattle.std.specs.Prelude.{◌≡◌, ℕ, ◌*◌, List, ℤ, refl, Result, Ok}
use Rattle.std.proofs.Math.Option.{none}
use Rattle.rules.specs.Answers.{◌then◌, Answer, accepted, answer, outcome, call}
use Rattle.rules.specs.Calls.{nodes, raster_check, raster_call, stage_check}
use Rattle.rules.specs.Storage.{storage, side_check}
use Rattle.answers.specs.Told.{told}
use Rattle.answers.specs.declared.Refusal.{Refusal}

-- these heights are what an accepted raster of so many columns and rows has left in the slice that it was lent
pub record Sampled (columns rows : ℕ) (heights : List ℤ) : Type 0 where
  pub m : ℕ
  pub n : ℕ
  pub unit : ℕ
  pub lattice : List ℤ
  pub x0 : ℕ
  pub y0 : ℕ
  pub step : ℕ
  pub lent : List ℤ
  pub answered : Result ℕ Refusal
  pub rules : outcome (told answered) heights ≡ raster_call m n unit lattice (nodes x0 y0 step columns rows) lent
  pub count : ℕ
  pub is : told answered ≡ accepted count

-- every raster that the rules accept leaves some
pub sampled : (m n U : ℕ) (l : List ℤ) (x0 y0 step columns rows : ℕ) (d : List ℤ) → raster_check m n U l (nodes x0 y0 step columns rows) d ≡ none
    → Sampled columns rows (raster_call m n U l (nodes x0 y0 step columns rows) d).slices
unfolding raster_call call
sampled m n U l x0 y0 step columns rows d e = record {
  m = m;
  n = n;
  unit = U;
  lattice = l;
  x0 = x0;
  y0 = y0;
  step = step;
  lent = d;
  answered = Ok (columns * rows);
  rules = rw e refl;
  count = columns * rows;
  is = refl;
}

-- the answer of the two checks that are left of a storage, the side's and the stage's
abbrev pub sampled_answer : ℕ → ℕ → List ℤ → ℤ → ℕ → Answer ℕ
sampled_answer columns rows heights stage side = answer (side_check side then stage_check stage) (storage columns rows heights stage side)
