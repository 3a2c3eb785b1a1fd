-- The children of a value are smaller than it.
use Rattle.std.proofs.Common.{◌≡◌, ℕ, suc, ◌+◌, ◌*◌, ◌<◌, ◌≤◌, List, length, Option, Some, None, refl, sym, ap, arith}
use Rattle.json_tape.specs.Tree.{Null, True, False, Num, Str, Tree, Leaf, Arr, Obj, Elements, NoElement, Element, Members, NoMember, Member}
use Rattle.json_tape.specs.Nodes.{Node, Step, size, size_of_elements, size_of_members, elements_from, members_from, children_of, children}
use Rattle.json_tape.specs.Document.{kind_of, length_of}
use Rattle.json_tape.specs.Tape.{member_count}
use Rattle.json_text.specs.declared.tape.Kind.TheVariants as kinds
use Rattle.tape_values.specs.Pairs.{total_size}
use Rattle.tape_values.specs.Comparison.{Value, a_null, a_boolean, a_number, a_text, a_container, value_of}

elements_size : (up : List Step) (i k : ℕ) (es : Elements) → total_size (elements_from up i k es) ≡ size_of_elements es
elements_size up i k NoElement = refl
elements_size up i k (Element t es) = ap (λ n. size t + n) (elements_size up (suc i) (k + size t) es)

members_size : (up : List Step) (k : ℕ) (ms : Members) → total_size (members_from up k ms) ≡ size_of_members ms
members_size up k NoMember = refl
members_size up k (Member n t ms) = ap (λ m. size t + m) (members_size up (k + size t) ms)

smaller_of : (up : List Step) (k : ℕ) (t : Tree) → total_size (children_of up k t) < size t
smaller_of up k (Leaf s c) = omega arith
smaller_of up k (Arr s es) = let e = elements_size up 0 (suc k) es in omega arith
smaller_of up k (Obj s ms) = let e = members_size up (suc k) ms in omega arith

pub children_smaller : (n : Node) → total_size (children n) < size n.tree
children_smaller n = smaller_of n.way_up n.number n.tree

pub length_members : (up : List Step) (k : ℕ) (ms : Members) → length (members_from up k ms) ≡ member_count ms
length_members up k NoMember = refl
length_members up k (Member n t ms) = ap suc (length_members up (k + size t) ms)

object_length : (up : List Step) (k : ℕ) (t : Tree) → kind_of t ≡ kinds.Object → length_of t ≡ Some (length (children_of up k t))
object_length up k (Leaf s Null) e = cc
object_length up k (Leaf s True) e = cc
object_length up k (Leaf s False) e = cc
object_length up k (Leaf s Num) e = cc
object_length up k (Leaf s (Str cs)) e = cc
object_length up k (Arr s es) e = cc
object_length up k (Obj s ms) e = ap Some (sym (length_members up (suc k) ms))

pub members_total : (n : Node) → kind_of n.tree ≡ kinds.Object → length_of n.tree ≡ Some (length (children n))
members_total n e = object_length n.way_up n.number n.tree e

-- how much an array or an object weighs as a measure
abbrev pub weight : Option Value → ℕ
weight None = 0
weight (Some a_null) = 0
weight (Some (a_boolean b)) = 0
weight (Some (a_number text)) = 0
weight (Some (a_text scalars)) = 0
weight (Some (a_container t)) = 8 * size t + 2

pub weight_of : (t : Tree) → weight (Some (value_of t)) ≤ 8 * size t + 2
weight_of (Leaf s Null) = omega arith
weight_of (Leaf s True) = omega arith
weight_of (Leaf s False) = omega arith
weight_of (Leaf s Num) = omega arith
weight_of (Leaf s (Str cs)) = omega arith
weight_of (Arr s es) = omega arith
weight_of (Obj s ms) = omega arith
