-- Charges of small queries, by computation.
use Rattle.std.proofs.Common.{◌≡◌, ℕ, zero, suc, List, [], ◌∷◌, true, false, Option, None, Some, ℤ, pos, negsuc, refl}
use Rattle.std.specs.Prelude.{codes}
use Rattle.path_grammar.specs.Tree.{Segments, no_segments, segment, no_selectors, selector, Selector, name, wild, index, filter, slice, compare, test, each, no_exprs, expr, nested, lit, single, func, call, no_arguments, argument, nodes_argument}
use Rattle.path_grammar.specs.Tree as query
use Rattle.path_grammar.specs.declared.ast.IntLit.{IntLit}
use Rattle.path_grammar.specs.declared.ast.IntLit.TheVariants.{Within}
use Rattle.path_grammar.specs.declared.ast.Op.TheVariants.{Eq, Gt}
use Rattle.json_tape.specs.Tree.{Tree, Leaf, Arr, Obj, Elements, NoElement, Element, Members, NoMember, Member, Source, Num, Name, Plain}
use Rattle.node_lists.specs.Charge.{charge}
use Rattle.tape_values.specs.Selection.{sliced}

abbrev here : Source
here = record { place = 0; bytes = [] }

abbrev num : List ℕ → Tree
num text = Leaf (record { place = 0; bytes = text }) Num

abbrev arr : Elements → Tree
arr es = Arr here es

abbrev obj : Members → Tree
obj ms = Obj here ms

abbrev key : ℕ → Name
key c = record { source = here; characters = Plain c ∷ [] }

abbrev child : Selector → Segments → Segments
child s others = segment false (selector s no_selectors) others

abbrev a : ℕ
a = 97

abbrev b : ℕ
b = 98

abbrev c : ℕ
c = 99

abbrev one : Tree
one = num (49 ∷ [])

abbrev of_a : Segments
of_a = child (name (a ∷ [])) no_segments

abbrev of_b : Segments
of_b = child (name (b ∷ [])) no_segments

abbrev x : ℕ
x = 120

-- an array of one value so many times
abbrev times : ℕ → Tree → Elements
times zero t = NoElement
times (suc n) t = Element t (times n t)

-- `$`
of_root : charge one no_segments ≡ 0
of_root = refl

-- `$[1]` on `[10,20]`
of_index : charge (arr (Element one (Element one NoElement))) (child (index (Within (pos 1))) no_segments) ≡ 1
of_index = refl

-- `$[*]` on `[7,7]`
of_wild : charge (arr (Element one (Element one NoElement))) (child wild no_segments) ≡ 3
of_wild = refl

-- `$[::2]` on five elements
of_slice : charge (arr (Element one (Element one (Element one (Element one (Element one NoElement)))))) (child (slice None None (Some (Within (pos 2)))) no_segments) ≡ 4
unfolding sliced
of_slice = refl

-- `$..*` on `{"a":[1,{"b":2}],"c":3}`
of_descent : charge (obj (Member (key a) (arr (Element one (Element (obj (Member (key b) one NoMember)) NoElement))) (Member (key c) one NoMember)))
    (segment true (selector wild no_selectors) no_segments) ≡ 11
of_descent = refl

-- `$[?@.a==@.b]` on `[{},{"a":1,"b":1},{"a":1},{"a":1,"b":2}]`
of_comparison : charge (arr (Element (obj NoMember) (Element (obj (Member (key a) one (Member (key b) one NoMember))) (Element (obj (Member (key a) one NoMember)) (Element (obj (Member (key a) one (Member (key b) one NoMember))) NoElement)))))
    (child (filter (compare (single (nested false of_a)) Eq (single (nested false of_b)))) no_segments) ≡ 17
of_comparison = refl

-- `$[?count(@.*)>1]` on `[[1],[1,2],{"a":1,"b":2},"xy"]`
of_count : charge (arr (Element (arr (Element one NoElement)) (Element (arr (Element one (Element one NoElement))) (Element (obj (Member (key a) one (Member (key b) one NoMember))) (Element one NoElement)))))
    (child (filter (compare (func (call (codes "count") (argument (nodes_argument (nested false (child wild no_segments))) no_arguments))) Gt (lit (query.number (49 ∷ []))))) no_segments) ≡ 18
of_count = refl

-- ---- Slices and indexes, on `[1,1,1,1,1,1,1]`

abbrev seven : Tree
seven = arr (times 7 one)

abbrev bound : ℤ → Option IntLit
bound i = Some (Within i)

-- `$[5:1:-2]`
of_steps_down : charge seven (child (slice (bound (pos 5)) (bound (pos 1)) (bound (negsuc 1))) no_segments) ≡ 3
unfolding sliced
of_steps_down = refl

-- `$[-3:-1]`
of_places_from_the_end : charge seven (child (slice (bound (negsuc 2)) (bound (negsuc 0)) None) no_segments) ≡ 3
unfolding sliced
of_places_from_the_end = refl

-- `$[0:3:0]`
of_no_step : charge seven (child (slice (bound (pos 0)) (bound (pos 3)) (bound (pos 0))) no_segments) ≡ 1
unfolding sliced
of_no_step = refl

-- `$[-8]`
of_no_element : charge seven (child (index (Within (negsuc 7))) no_segments) ≡ 1
of_no_element = refl

-- `$[::-1]` on `[]` and on `[1,1]`
of_nothing_turned : charge (arr NoElement) (child (slice None None (bound (negsuc 0))) no_segments) ≡ 1
unfolding sliced
of_nothing_turned = refl

of_two_turned : charge (arr (times 2 one)) (child (slice None None (bound (negsuc 0))) no_segments) ≡ 3
unfolding sliced
of_two_turned = refl

-- `$[0,0]` on `[1]`
of_an_element_twice : charge (arr (times 1 one)) (segment false (selector (index (Within (pos 0))) (selector (index (Within (pos 0))) no_selectors)) no_segments) ≡ 2
of_an_element_twice = refl

-- ---- Filters

-- `$[?@==$[0]]` on an array of three objects: a bare `@` is charged nothing
of_the_first : charge (arr (times 3 (obj NoMember))) (child (filter (compare (single (nested false no_segments)) Eq (single (nested true (child (index (Within (pos 0))) no_segments))))) no_segments) ≡ 10
of_the_first = refl

-- `$[?value(@..x)==1]` on `[{"x":1},{"x":1,"y":{"x":1}}]`: a descendant segment selects from each node of each child
of_descent_in_a_filter : charge (arr (Element (obj (Member (key x) one NoMember)) (Element (obj (Member (key x) one (Member (key a) (obj (Member (key x) one NoMember)) NoMember))) NoElement)))
    (child (filter (compare (func (call (codes "value") (argument (nodes_argument (nested false (segment true (selector (name (x ∷ [])) no_selectors) no_segments))) no_arguments))) Eq (lit (query.number (49 ∷ []))))) no_segments) ≡ 11
of_descent_in_a_filter = refl

-- `$[?@[?@>1]]` on `[[1],[1],{"a":1}]`: the inner filter counts for each child of the outer one
of_a_filter_in_a_filter : charge (arr (Element (arr (times 1 one)) (Element (arr (times 1 one)) (Element (obj (Member (key a) one NoMember)) NoElement))))
    (child (filter (test (nested false (child (filter (compare (single (nested false no_segments)) Gt (lit (query.number (49 ∷ []))))) no_segments)))) no_segments) ≡ 16
of_a_filter_in_a_filter = refl

-- `$[?@==1&&$[*]]` on `[1,1,1]`: an operand counts whatever the others say, and a query from the root for each child
of_all_operands : charge (arr (times 3 one))
    (child (filter (each (expr (compare (single (nested false no_segments)) Eq (lit (query.number (49 ∷ [])))) (expr (test (nested true (child wild no_segments))) no_exprs)))) no_segments) ≡ 19
of_all_operands = refl
