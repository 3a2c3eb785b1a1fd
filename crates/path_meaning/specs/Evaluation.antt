-- What a query selects (RFC 9535, sections 2.1.2, 2.3.5, 2.4 and 2.5).
use Rattle.std.specs.Prelude.{List, [], ◌∷◌, ◌++◌, Bool, true, false, ◌&&◌, ◌||◌, flat_map, Option, Some, None}
use Rattle.std.specs.Prelude.{filter as keep, not as opposite}
use Rattle.path_grammar.specs.Tree.{Segments, no_segments, segment, Selectors, no_selectors, selector, Selector, name, wild, index, filter, slice, Expr, any, each, not, compare, test, test_call, Exprs, no_exprs, expr, Nested, nested, Comparable, lit, single, func, Call, call, no_arguments, argument, Argument, lit_argument, nodes_argument, func_argument, logical_argument}
use Rattle.json_text.specs.Tree.{Tree}
use Rattle.json_text.specs.Nodes.{Node, children, elements, visit, is_named, first_where}
use Rattle.path_meaning.specs.Selection.{at_index, sliced}
use Rattle.path_meaning.specs.Comparison.{Value, literal_value, compared}
use Rattle.path_meaning.specs.Functions.{Argued, a_value, a_nodelist, only_value, applied}

-- ---- Segments (section 2.5)

-- the nodes from which a segment selects: the input node, or that and all its descendants
abbrev pub starts : (descend : Bool) → Node → List Node
starts false n = n ∷ []
starts true n = visit n

-- what `from` gives for each node from which a segment selects
abbrev pub from_starts : {A : Type 0} → (descend : Bool) → (Node → List A) → List Node → List A
from_starts descend from ns = flat_map (λ n. flat_map from (starts descend n)) ns

abbrev pub is_empty : List Node → Bool
is_empty [] = true
is_empty (n ∷ ns) = false

-- where a query in a filter begins: at `$`, or at `@`
abbrev pub start : (root : Node) (from_root : Bool) → Node → Node
start root true n = root
start root false n = n

-- `$` is this node
module _ (root : Node) where
  abbrev mutual
    -- what segments give from a nodelist
    pub evaluated : Segments → List Node → List Node
    evaluated no_segments ns = ns
    evaluated (segment descend ss others) ns = evaluated others (from_starts descend (λ m. selected ss m) ns)

    -- what each selector in turn selects from a node
    pub selected : Selectors → Node → List Node
    selected no_selectors n = []
    selected (selector s others) n = selected_by s n ++ selected others n

    -- what a selector selects from a node (section 2.3)
    pub selected_by : Selector → Node → List Node
    selected_by (name scalars) n = first_where (is_named scalars) (children n)
    selected_by wild n = children n
    selected_by (index i) n = at_index i (elements n)
    selected_by (filter e) n = keep (λ child. holds e child) (children n)
    selected_by (slice start stop step) n = sliced start stop step (elements n)

    -- ---- Filters (section 2.3.5): `@` is the node

    pub holds : Expr → Node → Bool
    holds (any es) n = some_hold es n
    holds (each es) n = all_hold es n
    holds (not e) n = opposite (holds e n)
    holds (compare a op b) n = compared op (result a n) (result b n)
    holds (test q) n = opposite (is_empty (nodes q n))
    -- no function gives a truth value
    holds (test_call c) n = false

    pub some_hold : Exprs → Node → Bool
    some_hold no_exprs n = false
    some_hold (expr e others) n = holds e n || some_hold others n

    pub all_hold : Exprs → Node → Bool
    all_hold no_exprs n = true
    all_hold (expr e others) n = holds e n && all_hold others n

    -- the nodelist of a query in a filter
    pub nodes : Nested → Node → List Node
    nodes (nested from_root ss) n = evaluated ss (start root from_root n ∷ [])

    -- a side of a comparison: a value or Nothing
    pub result : Comparable → Node → Option Value
    result (lit l) n = Some (literal_value l)
    result (single q) n = only_value (nodes q n)
    result (func c) n = called c n

    -- ---- Functions (section 2.4)

    pub called : Call → Node → Option Value
    called (call f no_arguments) n = None
    called (call f (argument a no_arguments)) n = applied f (argued a n)
    called (call f (argument a (argument b others))) n = None

    -- what stands for an argument
    pub argued : Argument → Node → Argued
    argued (lit_argument l) n = a_value (Some (literal_value l))
    argued (nodes_argument q) n = a_nodelist (nodes q n)
    argued (func_argument c) n = a_value (called c n)
    argued (logical_argument e) n = a_value None

-- ---- A whole query

-- the node of a whole text
abbrev pub root_node : Tree → Node
root_node t = record { number = 0; way_up = []; tree = t }

-- the nodes that a query selects from a text with this tree, in order
abbrev pub nodes_selected : Tree → Segments → List Node
nodes_selected t q = evaluated (root_node t) q (root_node t ∷ [])
