-- The code's nodes as the rules'.
use Rattle.rules.specs.Calls as calls
use Rattle.nodes.specs.declared.Nodes.{Nodes}

abbrev pub nodes_of : Nodes → calls.Nodes
nodes_of g = calls.nodes_at g.x0 g.y0 g.step g.columns g.rows

-- as a caller asks for them, where step 0 stands for the default
abbrev pub nodes_asked : Nodes → calls.Nodes
nodes_asked g = calls.nodes g.x0 g.y0 g.step g.columns g.rows
