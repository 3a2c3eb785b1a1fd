-- The string that a node is, and the first of selected nodes.
use Rattle.std.proofs.Common.{◌≡◌, ℕ, List, [], ◌∷◌, Option, Some, None, slice_get, flat_map, encode_utf8, ap, ◌∙◌, refl}
use Rattle.json_text.specs.Tree.{Tree, Leaf, Arr, Obj, Null, True, False, Num, Str}
use Rattle.json_text.specs.Tape.{kind_of}
use Rattle.json_text.specs.declared.tape.Kind.TheVariants as kinds
use Rattle.json_text.specs.declared.tape.NodeId.{NodeId}
use Rattle.json_tape.specs.Document.{Doc, node_at, string_meaning}
use Rattle.json_tape.specs.Nodes.{Node}
use Rattle.tape_select.specs.Nodelists.{nodes_of}
use Rattle.client_lines.specs.Naming.{first_string, string_of}

pub is_string : (tree : Tree) → kind_of tree ≡ kinds.Text → Some (flat_map encode_utf8 (string_meaning tree)) ≡ string_of tree
is_string (Leaf s (Str cs)) e = refl
is_string (Leaf s Null) e = absurd cc
is_string (Leaf s True) e = absurd cc
is_string (Leaf s False) e = absurd cc
is_string (Leaf s Num) e = absurd cc
is_string (Arr s es) e = absurd cc
is_string (Obj s ms) e = absurd cc

pub first_is : (d : Doc) (ids : List NodeId) (id : NodeId) (nodes : List Node) → nodes_of d ids ≡ nodes → Some id ≡ slice_get ids 0 → string_of (node_at d id.0).tree ≡ first_string nodes
first_is d [] id nodes e first = absurd cc
first_is d (one ∷ ids) id nodes e first = ap (λ (o : Option NodeId). elim o as (λ _. Option (List ℕ)) [ Some k ↦ string_of (node_at d k.0).tree | None ↦ None ]) first ∙ ap first_string e

pub none_is : (d : Doc) (ids : List NodeId) (nodes : List Node) → nodes_of d ids ≡ nodes → None ≡ slice_get ids 0 → None ≡ first_string nodes
none_is d [] nodes e none = ap first_string e
none_is d (one ∷ ids) nodes e none = absurd cc
