-- What a list of numbers of nodes stands for in a document.
use Rattle.std.specs.Prelude.{ℕ, ◌-◌, List, map, flat_map}
use Rattle.json_tape.specs.Nodes.{Node, children}
use Rattle.json_tape.specs.Document.{Doc, node_at, seen, counting}
use Rattle.json_text.specs.declared.tape.NodeId.{NodeId}

-- the nodes of these numbers
abbrev pub nodes_of : Doc → List NodeId → List Node
nodes_of d ids = map (λ id. node_at d id.0) ids

-- the nodes from one number up to another
abbrev pub nodes_between : Doc → (from to : ℕ) → List Node
nodes_between d from to = seen d (counting from (to - from))

-- and their children
abbrev pub children_between : Doc → (from to : ℕ) → List Node
children_between d from to = flat_map children (nodes_between d from to)
