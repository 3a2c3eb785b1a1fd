-- Equality of arrays and objects, by their children.
use Rattle.std.proofs.Common.{◌≡◌, ℕ, suc, ◌+◌, List, ◌∷◌, Bool, true, ◌&&◌, ◌||◌, length, Option, Some, nat_eq, eq-eqb, arith, refl, sym, ap, ◌∙◌}
use Rattle.std.specs.Prelude.{bytes_eq}
use Rattle.std.specs.Ordering.{is_eq}
use Rattle.std.specs.Cmp.{tied_itself}
use Rattle.decimal_order.specs.Laws.{OrdersValues}
use Rattle.json_tape.specs.Tree.{Null, True, False, Num, Str, Name, Tree, Leaf, Arr, Obj, Elements, NoElement, Element, Members, NoMember, Member, source_of}
use Rattle.json_tape.specs.Meaning.{meaning}
use Rattle.json_tape.specs.Nodes.{Node, Step, key, size, elements_from, members_from, children_of, children}
use Rattle.json_tape.specs.Document.{kind_of}
use Rattle.json_text.specs.declared.tape.Kind.TheVariants as kinds
use Rattle.tape_values.specs.Comparison.{Value, value_of, equal_values, equal_results, equal_trees, equal_elements, each_in, has_member}
use Rattle.tape_values.specs.Pairs.{equal_each, has_twin, each_has_twin}
use Rattle.tape_values.proofs.Sizes.{length_members, children_smaller}

elements_equal : (u v : List Step) (i j k l : ℕ) (es fs : Elements) → equal_elements es fs ≡ equal_each (elements_from u i k es) (elements_from v j l fs)
elements_equal u v i j k l NoElement NoElement = refl
elements_equal u v i j k l NoElement (Element b fs) = refl
elements_equal u v i j k l (Element a es) NoElement = refl
elements_equal u v i j k l (Element a es) (Element b fs) = ap (λ x. equal_trees a b && x) (elements_equal u v (suc i) (suc j) (k + size a) (l + size b) es fs)

member_twin : (m : Name) (t : Tree) (u v : List Step) (k l : ℕ) (os : Members)
    → has_member (meaning m.characters) (λ x. equal_trees t x) os ≡ has_twin (record { number = k; way_up = key (meaning m.characters) ∷ u; tree = t }) (members_from v l os)
member_twin m t u v k l NoMember = refl
member_twin m t u v k l (Member n x os) = ap (λ b. (bytes_eq (meaning m.characters) (meaning n.characters) && equal_trees t x) || b) (member_twin m t u v k (l + size x) os)

members_equal : (u v : List Step) (k l : ℕ) (ms os : Members) → each_in ms os ≡ each_has_twin (members_from u k ms) (members_from v l os)
members_equal u v k l NoMember os = refl
members_equal u v k l (Member m t ms) os =
    ap (λ b. b && each_in ms os) (member_twin m t u v k l os)
    ∙ ap (λ b. has_twin (record { number = k; way_up = key (meaning m.characters) ∷ u; tree = t }) (members_from v l os) && b) (members_equal u v (k + size t) l ms os)

arrays_of : (u v : List Step) (k l : ℕ) (s t : Tree) → kind_of s ≡ kinds.Array → kind_of t ≡ kinds.Array → equal_trees s t ≡ equal_each (children_of u k s) (children_of v l t)
arrays_of u v k l (Arr s es) (Arr t fs) p q = elements_equal u v 0 0 (suc k) (suc l) es fs
arrays_of u v k l (Arr s es) (Obj t os) p q = cc
arrays_of u v k l (Arr s es) (Leaf t Null) p q = cc
arrays_of u v k l (Arr s es) (Leaf t True) p q = cc
arrays_of u v k l (Arr s es) (Leaf t False) p q = cc
arrays_of u v k l (Arr s es) (Leaf t Num) p q = cc
arrays_of u v k l (Arr s es) (Leaf t (Str cs)) p q = cc
arrays_of u v k l (Obj s ms) t p q = cc
arrays_of u v k l (Leaf s Null) t p q = cc
arrays_of u v k l (Leaf s True) t p q = cc
arrays_of u v k l (Leaf s False) t p q = cc
arrays_of u v k l (Leaf s Num) t p q = cc
arrays_of u v k l (Leaf s (Str cs)) t p q = cc

pub arrays_equal : (m n : Node) → kind_of m.tree ≡ kinds.Array → kind_of n.tree ≡ kinds.Array → equal_trees m.tree n.tree ≡ equal_each (children m) (children n)
arrays_equal m n p q = arrays_of m.way_up n.way_up m.number n.number m.tree n.tree p q

objects_of : (u v : List Step) (k l : ℕ) (s t : Tree) → kind_of s ≡ kinds.Object → kind_of t ≡ kinds.Object
    → equal_trees s t ≡ nat_eq (length (children_of u k s)) (length (children_of v l t)) && each_has_twin (children_of u k s) (children_of v l t)
objects_of u v k l (Obj s ms) (Obj t os) p q = rw (length_members u (suc k) ms, length_members v (suc l) os, members_equal u v (suc k) (suc l) ms os) refl
objects_of u v k l (Obj s ms) (Arr t fs) p q = cc
objects_of u v k l (Obj s ms) (Leaf t Null) p q = cc
objects_of u v k l (Obj s ms) (Leaf t True) p q = cc
objects_of u v k l (Obj s ms) (Leaf t False) p q = cc
objects_of u v k l (Obj s ms) (Leaf t Num) p q = cc
objects_of u v k l (Obj s ms) (Leaf t (Str cs)) p q = cc
objects_of u v k l (Arr s es) t p q = cc
objects_of u v k l (Leaf s Null) t p q = cc
objects_of u v k l (Leaf s True) t p q = cc
objects_of u v k l (Leaf s False) t p q = cc
objects_of u v k l (Leaf s Num) t p q = cc
objects_of u v k l (Leaf s (Str cs)) t p q = cc

pub objects_equal : (m n : Node) → kind_of m.tree ≡ kinds.Object → kind_of n.tree ≡ kinds.Object
    → equal_trees m.tree n.tree ≡ nat_eq (length (children m)) (length (children n)) && each_has_twin (children m) (children n)
objects_equal m n p q = objects_of m.way_up n.way_up m.number n.number m.tree n.tree p q

pub objects_met : (m n : Node) (all : Bool) → kind_of m.tree ≡ kinds.Object → kind_of n.tree ≡ kinds.Object → length (children m) ≡ length (children n)
    → all ≡ each_has_twin (children m) (children n) → all ≡ equal_trees m.tree n.tree
objects_met m n all p q l h =
    let t : nat_eq (length (children m)) (length (children n)) ≡ true = eq-eqb (length (children m)) (length (children n)) l in
    h ∙ sym (objects_equal m n p q ∙ rw t refl)

-- the values of two trees are equal where the trees are
values_equal : (t u : Tree) → equal_values (value_of t) (value_of u) ≡ equal_trees t u
values_equal (Arr s es) (Arr u fs) = refl
values_equal (Arr s es) (Obj u fs) = refl
values_equal (Arr s es) (Leaf u Null) = refl
values_equal (Arr s es) (Leaf u True) = refl
values_equal (Arr s es) (Leaf u False) = refl
values_equal (Arr s es) (Leaf u Num) = refl
values_equal (Arr s es) (Leaf u (Str cs)) = refl
values_equal (Obj s es) (Arr u fs) = refl
values_equal (Obj s es) (Obj u fs) = refl
values_equal (Obj s es) (Leaf u Null) = refl
values_equal (Obj s es) (Leaf u True) = refl
values_equal (Obj s es) (Leaf u False) = refl
values_equal (Obj s es) (Leaf u Num) = refl
values_equal (Obj s es) (Leaf u (Str cs)) = refl
values_equal (Leaf s Null) (Leaf u d) = refl
values_equal (Leaf s Null) (Arr u fs) = refl
values_equal (Leaf s Null) (Obj u fs) = refl
values_equal (Leaf s True) (Leaf u d) = refl
values_equal (Leaf s True) (Arr u fs) = refl
values_equal (Leaf s True) (Obj u fs) = refl
values_equal (Leaf s False) (Leaf u d) = refl
values_equal (Leaf s False) (Arr u fs) = refl
values_equal (Leaf s False) (Obj u fs) = refl
values_equal (Leaf s Num) (Leaf u d) = refl
values_equal (Leaf s Num) (Arr u fs) = refl
values_equal (Leaf s Num) (Obj u fs) = refl
values_equal (Leaf s (Str cs)) (Leaf u d) = refl
values_equal (Leaf s (Str cs)) (Arr u fs) = refl
values_equal (Leaf s (Str cs)) (Obj u fs) = refl

pub values_met : (t u : Tree) (a b : Option Value) (r : Bool) → a ≡ Some (value_of t) → b ≡ Some (value_of u) → r ≡ equal_results a b → r ≡ equal_trees t u
values_met t u a b r p q e = rw (p, q) at e ∙ values_equal t u

-- numbers of the same digits are equal
pub same_digits : (t u : Tree) → OrdersValues → kind_of t ≡ kinds.Number → kind_of u ≡ kinds.Number → (source_of t).bytes ≡ (source_of u).bytes → equal_trees t u ≡ true
same_digits (Leaf s Num) (Leaf v Num) o p q e = rw (← e) (ap is_eq (tied_itself o.numbers s.bytes))
same_digits t u o p q e = grind arith

pub ruleset arrays = (arrays_equal, children_smaller)

pub ruleset objects = (objects_equal, children_smaller)
