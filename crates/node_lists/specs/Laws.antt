-- Laws that the definitions have to meet.
use Rattle.std.specs.Prelude.{◌≡◌, ◌+◌, ◌<◌, ◌≤◌, ◌++◌, ℕ, pos, List, [], ◌∷◌}
use Rattle.path_grammar.specs.Tree.{Selectors}
use Rattle.path_grammar.specs.declared.ast.IntLit.TheVariants.{Within}
use Rattle.json_tape.specs.Nodes.{Node, children}
use Rattle.json_tape.specs.Document.{Doc}
use Rattle.tape_values.specs.Selection.{at_index, nth, picked}
use Rattle.tape_values.specs.Places.{is_place}
use Rattle.node_lists.specs.Evaluation.{selected}
use Rattle.node_lists.specs.Charge.{charge_in}
use Rattle.node_lists.specs.Extra.{count_of, extra_in}
use Rattle.node_lists.specs.Nodelists.{nodes_between}

-- Selectors are charged a unit each, and more for what they go over. From a node without children they select nothing, and go over nothing.
pub record PaysInParts : Type 0 where
  pub parts : (root : Node) (ss : Selectors) (n : Node) → charge_in root ss n ≡ count_of ss + extra_in root ss n
  pub nothing : (root : Node) (ss : Selectors) (n : Node) → children n ≡ [] → selected root ss n ≡ []
  pub free : (root : Node) (ss : Selectors) (n : Node) → children n ≡ [] → extra_in root ss n ≡ 0

-- the nodes from one number up to another are those up to a number between them, and those from it on
abbrev pub SplitsNodes : Type 0
SplitsNodes = (d : Doc) (from mid to : ℕ) → from ≤ mid → mid ≤ to → nodes_between d from to ≡ nodes_between d from mid ++ nodes_between d mid to

-- What stands at the places of a step is the node at the first of them, and what stands at the others. An index that is not negative is a place.
pub record StepsOn : Type 0 where
  pub first : (from end step i : ℕ) (n : Node) (ns : List Node) → i ≡ from → from < end → picked (is_place from end step) i (n ∷ ns) ≡ n ∷ picked (is_place (from + step) end step) (i + 1) ns
  pub at : (place : ℕ) (ns : List Node) → at_index (Within (pos place)) ns ≡ nth place ns
