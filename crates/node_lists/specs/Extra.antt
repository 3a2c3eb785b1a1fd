-- The charge of selectors in two parts: 1 for each, and what it is charged beyond that for what it goes over.
use Rattle.std.specs.Prelude.{ℕ, zero, suc, ◌+◌, List, length, flat_map}
use Rattle.path_grammar.specs.Tree.{OneSegment, Selectors, no_selectors, selector, Selector, name, wild, index, filter, slice}
use Rattle.json_tape.specs.Nodes.{Node, children, elements}
use Rattle.tape_values.specs.Selection.{sliced}
use Rattle.node_lists.specs.Evaluation.{starts, selected}
use Rattle.node_lists.specs.Charge.{total_of, charge_in, charge_expr}

abbrev pub count_of : Selectors → ℕ
count_of no_selectors = zero
count_of (selector s others) = suc (count_of others)

abbrev pub extra_by : (root : Node) → Selector → Node → ℕ
extra_by root (name scalars) n = 0
extra_by root wild n = length (children n)
extra_by root (index i) n = 0
extra_by root (slice start stop step) n = length (sliced start stop step (elements n))
extra_by root (filter e) n = length (children n) + total_of (λ child. 1 + charge_expr root e child) (children n)

abbrev pub extra_in : (root : Node) → Selectors → Node → ℕ
extra_in root no_selectors n = 0
extra_in root (selector s others) n = extra_by root s n + extra_in root others n

-- what a segment selects from one node and is charged there, and the same of all nodes of a list
module _ (root : Node) (s : OneSegment) where
  abbrev pub nodes_from : Node → List Node
  nodes_from n = flat_map (selected root s.selectors) (starts s.descend n)

  abbrev pub charge_at : Node → ℕ
  charge_at n = total_of (charge_in root s.selectors) (starts s.descend n)

  abbrev pub nodes_after : List Node → List Node
  nodes_after ns = flat_map nodes_from ns

  abbrev pub charge_after : List Node → ℕ
  charge_after ns = total_of charge_at ns
