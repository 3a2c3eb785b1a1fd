-- The children of a node from one number up to an end.
use Rattle.std.specs.Prelude.{◌≡◌, ℕ, ◌+◌, ltb, List, [], ◌∷◌, map, cond}
use Rattle.json_text.specs.Nodes.{Node, size}
use Rattle.json_tape.specs.Document.{Doc, node_at, later}
use Rattle.json_text.specs.declared.tape.NodeId.{NodeId}

-- the numbers of nodes
abbrev pub numbers_of : List Node → List NodeId
numbers_of ns = map (λ n. record { 0 = n.number }) ns

-- the nodes of these numbers
abbrev pub numbered : Doc → List NodeId → List Node
numbered d ids = map (λ id. node_at d id.0) ids

-- the node of this number and its later siblings, where the number is below the end
abbrev pub siblings : Doc → (k end : ℕ) → List Node
siblings d k end = cond (ltb k end) (node_at d k ∷ later d k) []

-- the nodes and all that is in them have the numbers from one up to the end
abbrev pub AreBetween : List Node → (k end : ℕ) → Type 0
AreBetween [] k end = k ≡ end
AreBetween (n ∷ ns) k end = (n.number ≡ k) × AreBetween ns (k + size n.tree) end
