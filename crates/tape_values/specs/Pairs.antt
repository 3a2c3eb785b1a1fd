-- Equality of arrays and objects, over lists of children: what the code computes.
use Rattle.std.specs.Prelude.{◌≡◌, ℕ, ◌+◌, List, [], ◌∷◌, ◌++◌, Bool, true, false, ◌&&◌, ◌||◌, bytes_eq}
use Rattle.json_tape.specs.Nodes.{Node, Step, key, size}
use Rattle.tape_values.specs.Comparison.{equal_trees}

-- one by one
abbrev pub equal_each : List Node → List Node → Bool
equal_each [] [] = true
equal_each [] (n ∷ ns) = false
equal_each (m ∷ ms) [] = false
equal_each (m ∷ ms) (n ∷ ns) = equal_trees m.tree n.tree && equal_each ms ns

-- members of one name
abbrev pub same_name : List Step → List Step → Bool
same_name (key k ∷ way) (key l ∷ way') = bytes_eq k l
same_name _ _ = false

-- the members have one name and equal values
abbrev pub are_twins : Node → Node → Bool
are_twins m n = same_name m.way_up n.way_up && equal_trees m.tree n.tree

-- some member has this one's name and an equal value
abbrev pub has_twin : Node → List Node → Bool
has_twin m [] = false
has_twin m (n ∷ ns) = are_twins m n || has_twin m ns

abbrev pub each_has_twin : List Node → List Node → Bool
each_has_twin [] ns = true
each_has_twin (m ∷ ms) ns = has_twin m ns && each_has_twin ms ns

-- the second list is the end of the first
pub record IsEnd (whole part : List Node) : Type 0 where
  pub front : List Node
  pub parts : whole ≡ front ++ part

-- the node is one of the list
abbrev pub IsAmong : List Node → Node → Type 0
IsAmong ns n = (rest : List Node) × IsEnd ns (n ∷ rest)

-- how many values there are in the values of these nodes
abbrev pub total_size : List Node → ℕ
total_size [] = 0
total_size (n ∷ ns) = size n.tree + total_size ns
