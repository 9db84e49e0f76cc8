use Rattle.rules.specs.Grid.{controls}
use Rattle.grid.proofs.Cells.controls.Goals as goal

pub returns : goal.returns
unfolding controls
returns c = simp (c.width.ensures, c.rows.ensures)
