-- The elements of an array.
use Rattle.std.proofs.Common.{◌≡◌, ◌≢◌, ℕ, zero, suc, ◌+◌, ◌-◌, List, [], ◌∷◌, length, Some, refl, sym, ap, arith}
use Rattle.json_tape.specs.Tree.{Null, True, False, Num, Str, Tree, Leaf, Arr, Obj, Elements, NoElement, Element}
use Rattle.json_tape.specs.Nodes.{Node, Step, elements_from, elements_of, children_of, children, elements, size}
use Rattle.json_tape.specs.Document.{kind_of, length_of}
use Rattle.json_tape.specs.Tape.{element_count}
use Rattle.json_text.specs.declared.tape.Kind.TheVariants as kinds
use Rattle.tape_values.specs.Selection.{nth}

length_elements : (up : List Step) (i k : ℕ) (es : Elements) → length (elements_from up i k es) ≡ element_count es
length_elements up i k NoElement = refl
length_elements up i k (Element t es) = ap suc (length_elements up (suc i) (k + size t) es)

array_children : (up : List Step) (k : ℕ) (t : Tree) → kind_of t ≡ kinds.Array → children_of up k t ≡ elements_of up k t
array_children up k (Leaf s Null) e = cc
array_children up k (Leaf s True) e = cc
array_children up k (Leaf s False) e = cc
array_children up k (Leaf s Num) e = cc
array_children up k (Leaf s (Str cs)) e = cc
array_children up k (Arr s es) e = refl
array_children up k (Obj s ms) e = cc

array_length : (up : List Step) (k : ℕ) (t : Tree) → kind_of t ≡ kinds.Array → length_of t ≡ Some (length (elements_of up k t))
array_length up k (Leaf s Null) e = cc
array_length up k (Leaf s True) e = cc
array_length up k (Leaf s False) e = cc
array_length up k (Leaf s Num) e = cc
array_length up k (Leaf s (Str cs)) e = cc
array_length up k (Arr s es) e = ap Some (sym (length_elements up 0 (suc k) es))
array_length up k (Obj s ms) e = cc

no_array : (up : List Step) (k : ℕ) (t : Tree) → (kind_of t ≡ kinds.Array → ⊥) → elements_of up k t ≡ []
no_array up k (Leaf s c) e = refl
no_array up k (Arr s es) e = absurd (e refl)
no_array up k (Obj s ms) e = refl

pub children_are : (n : Node) → kind_of n.tree ≡ kinds.Array → children n ≡ elements n
children_are n e = array_children n.way_up n.number n.tree e

pub total_is : (n : Node) → kind_of n.tree ≡ kinds.Array → length_of n.tree ≡ Some (length (elements n))
total_is n e = array_length n.way_up n.number n.tree e

pub none_are : (n : Node) → (kind_of n.tree ≡ kinds.Array → ⊥) → elements n ≡ []
none_are n e = no_array n.way_up n.number n.tree e

pub nth_more : (i : ℕ) (n : Node) (ns : List Node) → i ≢ 0 → nth i (n ∷ ns) ≡ nth (i - 1) ns
nth_more zero n ns h = absurd (h refl)
nth_more (suc i) n ns h = let e : suc i - 1 ≡ i = omega arith in rw e refl

pub ruleset arrays = (children_are, total_is, none_are)
