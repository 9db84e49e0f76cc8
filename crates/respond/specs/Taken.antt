-- What the program fits, a survey in bounds that its arrays can hold, what it then writes, and how an answer tells of it.
use Rattle.std.specs.Prelude.{◌≡◌, ℕ, ◌≤◌, List, Result, Ok, Err}
use Rattle.rules.specs.Fit.{Shape, columns, rows, Survey, point_count, difference_check, in_levels_check}
use Rattle.rules.specs.Answers.{◌then◌}
use Rattle.rules.specs.Program.{written, refused_line}
use Rattle.rules.specs.Laws.PointFile.{Writable}
use Rattle.answers.specs.Cause.{cause}
use Rattle.answers.specs.declared.Refusal.{Refusal}
use Rattle.refused_line.specs.Wrote.{Wrote}

pub record Taken (a : Shape) (s : Survey) : Type 0 where
  pub writable : Writable a s
  pub across : columns a a.h ≤ 16
  pub up : rows a a.h ≤ 16
  pub few : point_count s ≤ 535

-- the lattice file of its fit, or the line of the refusal by 15 or in a level
unfoldable pub answer_text : Shape → Survey → List ℕ
answer_text a s = written (difference_check s.zs then in_levels_check a s) a s

-- the text stands at the start of the output; or it is the line of a refusal, which is still to be written
abbrev pub Answers : List ℕ → List ℕ → Result ℕ Refusal → List ℕ → Type 0
Answers text before (Ok n) after = Wrote text before n after
Answers text before (Err r) after = (refused_line (cause r) ≡ text) × (after ≡ before)
