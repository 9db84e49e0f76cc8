-- A strip as it is asked for, wherever its columns lie.
use Rattle.std.specs.Prelude.{ℕ, ◌-◌, ◌^◌, min}
use Rattle.nodes.specs.declared.Nodes.{Nodes}
use Rattle.strips.specs.declared.piece.Piece.{Piece}

-- the strip that begins with this column
abbrev pub strip_at : ℕ → ℕ → ℕ → Nodes → ℕ → Piece
strip_at m n e nodes column = record { m = m; n = n; unit = 2 ^ e; e = e; nodes = nodes; column = column; w = min (nodes.columns - column) 64 }
