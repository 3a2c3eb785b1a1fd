-- What selectors are charged in parts, and what they give from a node without children.
use Rattle.std.proofs.Common.{◌≡◌, ℕ, ◌+◌, Bool, true, false, List, [], reverse, Option, Some, None, ℤ, pos, refl, arith, cond}
use Rattle.std.specs.Prelude.{int_lt}
use Rattle.path_grammar.specs.Tree as tree
use Rattle.path_grammar.specs.Tree.{Selectors, Selector}
use Rattle.path_grammar.specs.declared.ast.IntLit.{IntLit}
use Rattle.path_grammar.specs.declared.ast.IntLit.TheVariants.{Within, Beyond}
use Rattle.json_tape.specs.Tree.{Tree, Leaf, Arr, Obj}
use Rattle.json_tape.specs.Nodes.{Node, Step, children, children_of, elements, elements_of}
use Rattle.tape_values.specs.Selection.{at_index, nth_if, position_in, step_of, in_order, sliced}
use Rattle.node_lists.specs.Evaluation.{selected, selected_by}
use Rattle.node_lists.specs.Charge.{charge_in, charge_by}
use Rattle.node_lists.specs.Extra.{count_of, extra_by, extra_in}

module _ (root : Node) where
  one_each : (s : Selector) (n : Node) → charge_by root s n ≡ 1 + extra_by root s n
  one_each (tree.name scalars) n = refl
  one_each tree.wild n = refl
  one_each (tree.index i) n = refl
  one_each (tree.slice start stop step) n = refl
  one_each (tree.filter e) n = omega arith

  pub in_parts : (ss : Selectors) (n : Node) → charge_in root ss n ≡ count_of ss + extra_in root ss n
  in_parts tree.no_selectors n = refl
  in_parts (tree.selector s others) n = let a = one_each s n in let b = in_parts others n in omega (arith, a, b)

-- ---- A node without children

pub no_elements : (up : List Step) (k : ℕ) (t : Tree) → children_of up k t ≡ [] → elements_of up k t ≡ []
no_elements up k (Leaf s c) e = refl
no_elements up k (Arr s es) e = e
no_elements up k (Obj s ms) e = refl

none_at : (i : IntLit) → at_index i [] ≡ []
none_at Beyond = refl
none_at (Within i) = go (position_in i 0)
  where
    go : (p : Option ℕ) → nth_if p [] ≡ []
    go None = refl
    go (Some n) = refl

none_ordered : (step : ℤ) → in_order step [] ≡ []
none_ordered step = go (int_lt (pos 0) step) (int_lt step (pos 0))
  where
    go : (above below : Bool) → ◌≡◌ {A = List Node} (cond above [] (cond below (reverse []) [])) []
    go true below = refl
    go false true = refl
    go false false = refl

module _ (root n : Node) where
  selects_none : (s : Selector) → children n ≡ [] → elements n ≡ [] → selected_by root s n ≡ []
  unfolding sliced
  selects_none (tree.name scalars) c e = rw c refl
  selects_none tree.wild c e = c
  selects_none (tree.index i) c e = rw (e, none_at i) refl
  selects_none (tree.filter x) c e = rw c refl
  selects_none (tree.slice start stop step) c e = rw (e, none_ordered (step_of step)) refl

  costs_none : (s : Selector) → children n ≡ [] → elements n ≡ [] → extra_by root s n ≡ 0
  unfolding sliced
  costs_none (tree.name scalars) c e = refl
  costs_none tree.wild c e = rw c refl
  costs_none (tree.index i) c e = refl
  costs_none (tree.filter x) c e = rw c refl
  costs_none (tree.slice start stop step) c e = rw (e, none_ordered (step_of step)) refl

  pub select_none : (ss : Selectors) → children n ≡ [] → elements n ≡ [] → selected root ss n ≡ []
  select_none tree.no_selectors c e = refl
  select_none (tree.selector s others) c e = rw (selects_none s c e, select_none others c e) refl

  pub cost_none : (ss : Selectors) → children n ≡ [] → elements n ≡ [] → extra_in root ss n ≡ 0
  cost_none tree.no_selectors c e = refl
  cost_none (tree.selector s others) c e = rw (costs_none s c e, cost_none others c e) refl
