-- Comparisons that were made.
use Rattle.std.specs.Prelude.{◌≡◌, List, [], ◌∷◌, Option, Some, None}
use Rattle.json_tape.specs.Document.{Doc, node_at}
use Rattle.json_text.specs.declared.tape.NodeId.{NodeId}
use Rattle.tape_values.specs.Comparison.{value_of, equal_results, less_results}
use Rattle.compared_sides.specs.declared.answers.Compared.{Compared}

-- how the values of these nodes compare
pub record Answers (d : Doc) (left right : NodeId) (a : Compared) : Type 0 where
  pub equal : a.is_equal ≡ equal_results (Some (value_of (node_at d left.0).tree)) (Some (value_of (node_at d right.0).tree))
  pub less : a.is_less ≡ less_results (Some (value_of (node_at d left.0).tree)) (Some (value_of (node_at d right.0).tree))

abbrev pub IsRight : Doc → Option Compared → Type 0
IsRight d None = Unit {0}
IsRight d (Some a) = Answers d a.left a.right a

abbrev pub AreRight : Doc → List (Option Compared) → Type 0
AreRight d [] = Unit {0}
AreRight d (a ∷ rest) = IsRight d a × AreRight d rest
