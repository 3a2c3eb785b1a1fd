-- The way from a node up to the root, by the numbers of the nodes on it.
use Rattle.std.specs.Prelude.{◌≡◌, ℕ, ◌<◌, List, [], ◌∷◌, reverse, flat_map}
use Rattle.std.specs.List.{All}
use Rattle.json_tape.specs.Nodes.{Node, Step}
use Rattle.json_tape.specs.Document.{Doc, node_at, count}
use Rattle.json_text.specs.declared.tape.NodeId.{NodeId}
use Rattle.normal_paths.specs.NormalPath.{step_text, normal_path}

-- the text of the last of these steps, which stand innermost first
abbrev pub first_text : List Step → List ℕ
first_text [] = []
first_text (s ∷ ss) = step_text s

-- the text of a node's own step
abbrev pub last_text : Node → List ℕ
last_text n = first_text n.way_up

abbrev pub way_text : Doc → List NodeId → List ℕ
way_text d ids = flat_map (λ id. last_text (node_at d id.0)) ids

-- the own steps of these nodes, the last first, are the path of the node
pub record IsWay (d : Doc) (node : NodeId) (ids : List NodeId) : Type 0 where
  pub inside : All (λ id. id.0 < count d) ids
  pub path : normal_path (node_at d node.0) ≡ 36 ∷ way_text d (reverse ids)
