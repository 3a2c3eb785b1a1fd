-- What holds of the root and of the children of each node of which it holds, holds of each node that a query selects.
use Rattle.std.proofs.Common.{ℕ, zero, suc, ◌+◌, Bool, true, false, if◌then◌else◌, List, [], ◌∷◌, ◌++◌, length, reverse, flat_map, filter, Option, Some, None, ℤ, pos, int_lt, cond}
use Rattle.std.specs.List.{AllByRecursion}
use Rattle.json_tape.specs.Tree.{Tree, Leaf, Arr, Obj, Elements, NoElement, Element, Members, NoMember, Member}
use Rattle.json_tape.specs.Meaning.{meaning}
use Rattle.json_tape.specs.Nodes.{Node, Step, key, place, size, children, children_of, elements, elements_of, elements_from, members_from, visit_from, visit_elements, visit_members, is_named, first_where}
use Rattle.path_grammar.specs.declared.ast.IntLit.{IntLit}
use Rattle.path_grammar.specs.declared.ast.IntLit.TheVariants.{Within, Beyond}
use Rattle.path_grammar.specs.Tree as tree
use Rattle.path_grammar.specs.Tree.{Segments, no_segments, segment, Selectors, no_selectors, selector, Selector}
use mathlib.Core.List.{reverse_aux}
use Rattle.tape_values.specs.Selection.{nth, nth_if, position_in, at_index, picked, in_order, step_of, sliced}
use Rattle.tape_select.specs.Evaluation.{starts, evaluated, selected, selected_by, holds}

-- ---- Lists

module _ {A : Type 0} (P : A → Type 0) where
  pub all_append : (xs ys : List A) → AllByRecursion P xs → AllByRecursion P ys → AllByRecursion P (xs ++ ys)
  all_append [] ys h g = g
  all_append (x ∷ xs) ys h g = (h.0, all_append xs ys h.1 g)

  all_chosen : (b : Bool) (xs ys : List A) → AllByRecursion P xs → AllByRecursion P ys → AllByRecursion P (cond b xs ys)
  all_chosen true xs ys h g = h
  all_chosen false xs ys h g = g

  pub all_filter : (p : A → Bool) (xs : List A) → AllByRecursion P xs → AllByRecursion P (filter p xs)
  all_filter p [] h = tt
  all_filter p (x ∷ xs) h = let rest = all_filter p xs h.1 in all_chosen (p x) (x ∷ filter p xs) (filter p xs) (h.0, rest) rest

  pub all_reverse_aux : (xs ys : List A) → AllByRecursion P xs → AllByRecursion P ys → AllByRecursion P (reverse_aux xs ys)
  all_reverse_aux [] ys h g = g
  all_reverse_aux (x ∷ xs) ys h g = all_reverse_aux xs (x ∷ ys) h.1 (h.0, g)

  pub all_reverse : (xs : List A) → AllByRecursion P xs → AllByRecursion P (reverse xs)
  all_reverse xs h = all_reverse_aux xs [] h tt

pub all_flat_map : {A B : Type 0} (P : A → Type 0) (Q : B → Type 0) (f : A → List B) → ((x : A) → P x → AllByRecursion Q (f x)) → (xs : List A) → AllByRecursion P xs → AllByRecursion Q (flat_map f xs)
all_flat_map P Q f g [] h = tt
all_flat_map P Q f g (x ∷ xs) h = all_append Q (f x) (flat_map f xs) (g x h.0) (all_flat_map P Q f g xs h.1)

-- ---- What a selector selects from elements

module _ (P : Node → Type 0) where
  all_nth : (i : ℕ) (ns : List Node) → AllByRecursion P ns → AllByRecursion P (nth i ns)
  all_nth zero [] h = tt
  all_nth (suc i) [] h = tt
  all_nth zero (n ∷ ns) h = (h.0, tt)
  all_nth (suc i) (n ∷ ns) h = all_nth i ns h.1

  all_nth_if : (i : Option ℕ) (ns : List Node) → AllByRecursion P ns → AllByRecursion P (nth_if i ns)
  all_nth_if None ns h = tt
  all_nth_if (Some i) ns h = all_nth i ns h

  all_at_index : (i : IntLit) (ns : List Node) → AllByRecursion P ns → AllByRecursion P (at_index i ns)
  all_at_index Beyond ns h = tt
  all_at_index (Within i) ns h = all_nth_if (position_in i (length ns)) ns h

  all_picked : (p : ℕ → Bool) (i : ℕ) (ns : List Node) → AllByRecursion P ns → AllByRecursion P (picked p i ns)
  all_picked p i [] h = tt
  all_picked p i (n ∷ ns) h = let rest = all_picked p (suc i) ns h.1 in all_chosen P (p i) (n ∷ picked p (suc i) ns) (picked p (suc i) ns) (h.0, rest) rest

  all_ordered : (up down : Bool) (ns : List Node) → AllByRecursion P ns → AllByRecursion P (if up then ns else (if down then reverse ns else []))
  all_ordered true down ns h = h
  all_ordered false true ns h = all_reverse P ns h
  all_ordered false false ns h = tt

  all_in_order : (step : ℤ) (ns : List Node) → AllByRecursion P ns → AllByRecursion P (in_order step ns)
  all_in_order step ns h = all_ordered (int_lt (pos 0) step) (int_lt step (pos 0)) ns h

  all_sliced : (start stop step : Option IntLit) (ns : List Node) → AllByRecursion P ns → AllByRecursion P (sliced start stop step ns)
  unfolding sliced
  all_sliced start stop step ns h = all_in_order (step_of step) _ (all_picked _ 0 ns h)

  all_first : (p : Node → Bool) (ns : List Node) → AllByRecursion P ns → AllByRecursion P (first_where p ns)
  all_first p [] h = tt
  all_first p (n ∷ ns) h = all_chosen P (p n) (n ∷ []) (first_where p ns) (h.0, tt) (all_first p ns h.1)

  all_elements_of : (up : List Step) (k : ℕ) (t : Tree) → AllByRecursion P (children_of up k t) → AllByRecursion P (elements_of up k t)
  all_elements_of up k (Leaf s c) h = tt
  all_elements_of up k (Arr s es) h = h
  all_elements_of up k (Obj s ms) h = tt

-- ---- What a query selects

module _ (P : Node → Type 0) (down : (n : Node) → P n → AllByRecursion P (children n)) where
  mutual
    all_visited : (up : List Step) (k : ℕ) (t : Tree) → P (record { number = k; way_up = up; tree = t }) → AllByRecursion P (visit_from up k t)
    all_visited up k (Leaf s c) p = (p, tt)
    all_visited up k (Arr s es) p = (p, all_visited_elements up 0 (suc k) es (down (record { number = k; way_up = up; tree = Arr s es }) p))
    all_visited up k (Obj s ms) p = (p, all_visited_members up (suc k) ms (down (record { number = k; way_up = up; tree = Obj s ms }) p))

    all_visited_elements : (up : List Step) (i k : ℕ) (es : Elements) → AllByRecursion P (elements_from up i k es) → AllByRecursion P (visit_elements up i k es)
    all_visited_elements up i k NoElement h = tt
    all_visited_elements up i k (Element t es) h =
        all_append P (visit_from (place i ∷ up) k t) (visit_elements up (suc i) (k + size t) es) (all_visited (place i ∷ up) k t h.0) (all_visited_elements up (suc i) (k + size t) es h.1)

    all_visited_members : (up : List Step) (k : ℕ) (ms : Members) → AllByRecursion P (members_from up k ms) → AllByRecursion P (visit_members up k ms)
    all_visited_members up k NoMember h = tt
    all_visited_members up k (Member n t ms) h =
        all_append P (visit_from (key (meaning n.characters) ∷ up) k t) (visit_members up (k + size t) ms) (all_visited (key (meaning n.characters) ∷ up) k t h.0) (all_visited_members up (k + size t) ms h.1)

  all_starts : (descend : Bool) (n : Node) → P n → AllByRecursion P (starts descend n)
  all_starts false n p = (p, tt)
  all_starts true n p = all_visited n.way_up n.number n.tree p

  all_selected_by : (root : Node) (s : Selector) (n : Node) → P n → AllByRecursion P (selected_by root s n)
  all_selected_by root (tree.name scalars) n p = all_first P (is_named scalars) (children n) (down n p)
  all_selected_by root tree.wild n p = down n p
  all_selected_by root (tree.index i) n p = all_at_index P i (elements n) (all_elements_of P n.way_up n.number n.tree (down n p))
  all_selected_by root (tree.filter e) n p = all_filter P (λ child. holds root e child) (children n) (down n p)
  all_selected_by root (tree.slice start stop step) n p = all_sliced P start stop step (elements n) (all_elements_of P n.way_up n.number n.tree (down n p))

  all_selected : (root : Node) (ss : Selectors) (n : Node) → P n → AllByRecursion P (selected root ss n)
  all_selected root no_selectors n p = tt
  all_selected root (selector s ss) n p = all_append P (selected_by root s n) (selected root ss n) (all_selected_by root s n p) (all_selected root ss n p)

  pub all_evaluated : (root : Node) (q : Segments) (ns : List Node) → AllByRecursion P ns → AllByRecursion P (evaluated root q ns)
  all_evaluated root no_segments ns h = h
  all_evaluated root (segment descend ss others) ns h =
      all_evaluated root others _ (all_flat_map P P _ (λ n p. all_flat_map P P (λ m. selected root ss m) (λ m q. all_selected root ss m q) (starts descend n) (all_starts descend n p)) ns h)
