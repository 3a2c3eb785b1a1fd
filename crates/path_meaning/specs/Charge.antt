-- What a query is charged: for each segment, each node from which it selects and each of its selectors 1, and more for what the
-- selector goes over. All operands and arguments count, whatever the others say. `$` by itself is charged nothing.
use Rattle.std.specs.Prelude.{ℕ, ◌+◌, List, [], ◌∷◌, length}
use Rattle.path_grammar.specs.Tree.{Segments, no_segments, segment, Selectors, no_selectors, selector, Selector, name, wild, index, filter, slice, Expr, any, each, not, compare, test, test_call, Exprs, no_exprs, expr, Nested, nested, Comparable, lit, single, func, Call, call, Arguments, no_arguments, argument, Argument, lit_argument, nodes_argument, func_argument, logical_argument}
use Rattle.json_text.specs.Nodes.{Node, children, elements}
use Rattle.json_text.specs.Tree.{Tree}
use Rattle.path_meaning.specs.Selection.{sliced}
use Rattle.path_meaning.specs.Evaluation.{starts, from_starts, start, selected, root_node}

-- the sum over a list
abbrev pub total_of : {A : Type 0} → (A → ℕ) → List A → ℕ
total_of f [] = 0
total_of f (x ∷ xs) = f x + total_of f xs

-- `$` is this node
module _ (root : Node) where
  abbrev mutual
    -- segments, from the nodes of a nodelist; a descendant segment selects from each of them and from its descendants
    pub charge_from : Segments → List Node → ℕ
    charge_from no_segments ns = 0
    charge_from (segment descend ss others) ns =
        total_of (λ n. total_of (λ m. charge_in ss m) (starts descend n)) ns + charge_from others (from_starts descend (λ m. selected root ss m) ns)

    -- the selectors of a segment, from one node
    pub charge_in : Selectors → Node → ℕ
    charge_in no_selectors n = 0
    charge_in (selector s others) n = charge_by s n + charge_in others n

    -- 1; for a slice also the nodes selected, for `*` the children, for a filter the children, and for each child 1 and the charge of
    -- each query in the expression
    pub charge_by : Selector → Node → ℕ
    charge_by (name scalars) n = 1
    charge_by wild n = 1 + length (children n)
    charge_by (index i) n = 1
    charge_by (slice start stop step) n = 1 + length (sliced start stop step (elements n))
    charge_by (filter e) n = 1 + length (children n) + total_of (λ child. 1 + charge_expr e child) (children n)

    pub charge_expr : Expr → Node → ℕ
    charge_expr (any es) n = charge_exprs es n
    charge_expr (each es) n = charge_exprs es n
    charge_expr (not e) n = charge_expr e n
    charge_expr (compare a op b) n = charge_side a n + charge_side b n
    charge_expr (test q) n = charge_nested q n
    charge_expr (test_call c) n = charge_call c n

    pub charge_exprs : Exprs → Node → ℕ
    charge_exprs no_exprs n = 0
    charge_exprs (expr e others) n = charge_expr e n + charge_exprs others n

    -- a query in a filter
    pub charge_nested : Nested → Node → ℕ
    charge_nested (nested from_root ss) n = charge_from ss (start root from_root n ∷ [])

    pub charge_side : Comparable → Node → ℕ
    charge_side (lit l) n = 0
    charge_side (single q) n = charge_nested q n
    charge_side (func c) n = charge_call c n

    pub charge_call : Call → Node → ℕ
    charge_call (call f arguments) n = charge_arguments arguments n

    pub charge_arguments : Arguments → Node → ℕ
    charge_arguments no_arguments n = 0
    charge_arguments (argument a others) n = charge_argument a n + charge_arguments others n

    pub charge_argument : Argument → Node → ℕ
    charge_argument (lit_argument l) n = 0
    charge_argument (nodes_argument q) n = charge_nested q n
    charge_argument (func_argument c) n = charge_call c n
    charge_argument (logical_argument e) n = charge_expr e n

-- of a whole query on a text with this tree
abbrev pub charge : Tree → Segments → ℕ
charge t q = charge_from (root_node t) q (root_node t ∷ [])
