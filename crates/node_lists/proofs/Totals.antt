-- How many children a value has.
use Rattle.std.proofs.Common.{◌≡◌, ◌≢◌, ℕ, suc, ◌+◌, List, [], ◌∷◌, length, Some, refl, sym, ap}
use Rattle.json_tape.specs.Tree.{Null, True, False, Num, Str, Tree, Leaf, Arr, Obj, Elements, NoElement, Element, Members, NoMember, Member}
use Rattle.json_tape.specs.Nodes.{Node, Step, size, elements_from, members_from, children_of, children}
use Rattle.json_tape.specs.Document.{Doc, kind_of, length_of}
use Rattle.json_tape.specs.Tape.{element_count, member_count}
use Rattle.json_text.specs.declared.tape.NodeId.{NodeId}
use Rattle.node_lists.specs.Nodelists.{nodes_of}
use Rattle.json_text.specs.declared.tape.Kind.TheVariants as kinds

length_elements : (up : List Step) (i k : ℕ) (es : Elements) → length (elements_from up i k es) ≡ element_count es
length_elements up i k NoElement = refl
length_elements up i k (Element t es) = ap suc (length_elements up (suc i) (k + size t) es)

length_members : (up : List Step) (k : ℕ) (ms : Members) → length (members_from up k ms) ≡ member_count ms
length_members up k NoMember = refl
length_members up k (Member n t ms) = ap suc (length_members up (k + size t) ms)

array_length : (up : List Step) (k : ℕ) (t : Tree) → kind_of t ≡ kinds.Array → length_of t ≡ Some (length (children_of up k t))
array_length up k (Leaf s Null) e = cc
array_length up k (Leaf s True) e = cc
array_length up k (Leaf s False) e = cc
array_length up k (Leaf s Num) e = cc
array_length up k (Leaf s (Str cs)) e = cc
array_length up k (Arr s es) e = ap Some (sym (length_elements up 0 (suc k) es))
array_length up k (Obj s ms) e = cc

object_length : (up : List Step) (k : ℕ) (t : Tree) → kind_of t ≡ kinds.Object → length_of t ≡ Some (length (children_of up k t))
object_length up k (Leaf s Null) e = cc
object_length up k (Leaf s True) e = cc
object_length up k (Leaf s False) e = cc
object_length up k (Leaf s Num) e = cc
object_length up k (Leaf s (Str cs)) e = cc
object_length up k (Arr s es) e = cc
object_length up k (Obj s ms) e = ap Some (sym (length_members up (suc k) ms))

no_children : (up : List Step) (k : ℕ) (t : Tree) → kind_of t ≢ kinds.Array → kind_of t ≢ kinds.Object → children_of up k t ≡ []
no_children up k (Leaf s c) a o = refl
no_children up k (Arr s es) a o = absurd (a refl)
no_children up k (Obj s ms) a o = absurd (o refl)

pub array_total : (n : Node) → kind_of n.tree ≡ kinds.Array → length_of n.tree ≡ Some (length (children n))
array_total n e = array_length n.way_up n.number n.tree e

pub object_total : (n : Node) → kind_of n.tree ≡ kinds.Object → length_of n.tree ≡ Some (length (children n))
object_total n e = object_length n.way_up n.number n.tree e

pub none_are : (n : Node) → kind_of n.tree ≢ kinds.Array → kind_of n.tree ≢ kinds.Object → children n ≡ []
none_are n a o = no_children n.way_up n.number n.tree a o

pub ruleset totals = (array_total, object_total, none_are)

pub length_nodes : (d : Doc) (ids : List NodeId) → length (nodes_of d ids) ≡ length ids
length_nodes d [] = refl
length_nodes d (x ∷ xs) = ap suc (length_nodes d xs)
