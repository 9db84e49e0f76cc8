-- The fields that C is handed for each answer of the rules: number 0 for an acceptance, and values of 0 for a refusal.
use Rattle.std.specs.Prelude.{Bool, cond, ℕ, ℤ, pos}
use Rattle.rules.specs.Answers as rule
use Rattle.rules.specs.Answers.{accepted, refused}
use Rattle.rules.specs.Calls as calls
use Rattle.rules.specs.PointFile as point_file
use Rattle.fields.specs.declared.CellsAnswer.{CellsAnswer}
use Rattle.fields.specs.declared.HeightAnswer.{HeightAnswer}
use Rattle.fields.specs.declared.SlopeAnswer.{SlopeAnswer}
use Rattle.fields.specs.declared.CountAnswer.{CountAnswer}
use Rattle.fields.specs.declared.HeaderAnswer.{HeaderAnswer}
use Rattle.fields.specs.declared.AboveAnswer.{AboveAnswer}
use Rattle.fields.specs.declared.StorageAnswer.{StorageAnswer}
use Rattle.fields.specs.declared.StageAnswer.{StageAnswer}

-- the fields of an answer, and the slices as the call leaves them
pub record Handed (A B : Type 0) : Type 0 where
  pub fields : A
  pub slices : B

abbrev pub handed : {A B : Type 0} → A → B → Handed A B
handed fields slices = record { fields = fields; slices = slices }

abbrev pub in_fields : {A B C : Type 0} → (rule.Answer A → C) → rule.Outcome A B → Handed C B
in_fields fields o = handed (fields o.answered) o.slices

abbrev pub cells_fields : rule.Answer calls.CellCounts → CellsAnswer
cells_fields (accepted c) = record { number = 0; place = 0; m = c.m; n = c.n }
cells_fields (refused r) = record { number = rule.number r; place = rule.place r; m = 0; n = 0 }

abbrev pub height_fields : rule.Answer ℤ → HeightAnswer
height_fields (accepted z) = record { number = 0; place = 0; height = z }
height_fields (refused r) = record { number = rule.number r; place = rule.place r; height = pos 0 }

abbrev pub slope_fields : rule.Answer calls.Slopes → SlopeAnswer
slope_fields (accepted s) = record { number = 0; place = 0; along_x = s.along_x; along_y = s.along_y }
slope_fields (refused r) = record { number = rule.number r; place = rule.place r; along_x = pos 0; along_y = pos 0 }

abbrev pub count_fields : rule.Answer ℕ → CountAnswer
count_fields (accepted q) = record { number = 0; place = 0; count = q }
count_fields (refused r) = record { number = rule.number r; place = rule.place r; count = 0 }

abbrev pub header_fields : rule.Answer point_file.Header → HeaderAnswer
header_fields (accepted a) =
    record { number = 0; place = 0; m0 = a.shape.m0; n0 = a.shape.n0; h = a.shape.h; points = a.points }
header_fields (refused r) = record { number = rule.number r; place = rule.place r; m0 = 0; n0 = 0; h = 0; points = 0 }

-- a yes is 1 and a no is 0
abbrev pub above_fields : rule.Answer Bool → AboveAnswer
above_fields (accepted b) = record { number = 0; place = 0; above = cond b 1 0 }
above_fields (refused r) = record { number = rule.number r; place = rule.place r; above = 0 }

abbrev pub storage_fields : rule.Answer ℕ → StorageAnswer
storage_fields (accepted v) = record { number = 0; place = 0; litres = v }
storage_fields (refused r) = record { number = rule.number r; place = rule.place r; litres = 0 }

abbrev pub stage_fields : rule.Answer ℤ → StageAnswer
stage_fields (accepted z) = record { number = 0; place = 0; stage = z }
stage_fields (refused r) = record { number = rule.number r; place = rule.place r; stage = pos 0 }
