-- A name that is looked for at all depths, and a wildcard.
use Rattle.std.proofs.Common.{◌≡◌, ◌≢◌, ℕ, suc, ◌+◌, ◌-◌, List, [], ◌++◌, length, refl, sym, ap, ◌∙◌, append_assoc, length-append}
use Rattle.node_lists.specs.Evaluation.{selected}
use Rattle.path_grammar.specs.Tree.{selector, no_selectors, name}
use Rattle.json_tape.specs.Tree.{Tree, Leaf, Arr, Obj, Elements, NoElement, Element}
use Rattle.json_tape.specs.Nodes.{Node, Step, size, children, children_of, elements_from, is_named, first_where}
use Rattle.json_tape.specs.Document.{Doc, kind_of}
use Rattle.json_text.specs.declared.tape.Kind.TheVariants as kinds
use Rattle.json_text.specs.declared.tape.NodeId.{NodeId}
use Rattle.node_lists.proofs.Adding.{append_nil, has_none}
use Rattle.node_lists.specs.Nodelists.{nodes_of}
use Rattle.node_lists.proofs.Visits.{visit_more}
use Rattle.node_lists.proofs.Totals.{length_nodes}

no_element_named : (scalars : List ℕ) (up : List Step) (i k : ℕ) (es : Elements) → first_where (is_named scalars) (elements_from up i k es) ≡ []
no_element_named scalars up i k NoElement = refl
no_element_named scalars up i k (Element t es) = no_element_named scalars up (suc i) (k + size t) es

none_named : (scalars : List ℕ) (up : List Step) (k : ℕ) (t : Tree) → kind_of t ≢ kinds.Object → first_where (is_named scalars) (children_of up k t) ≡ []
none_named scalars up k (Leaf s c) h = refl
none_named scalars up k (Arr s es) h = no_element_named scalars up 0 (suc k) es
none_named scalars up k (Obj s ms) h = absurd (h refl)

-- what is no object has no member
pub no_members : (root : Node) (scalars : List ℕ) (n : Node) → kind_of n.tree ≢ kinds.Object → selected root (selector (name scalars) no_selectors) n ≡ []
no_members root scalars n h = append_nil (first_where (is_named scalars) (children n)) ∙ none_named scalars n.way_up n.number n.tree h

pub ruleset looking = (visit_more, no_members, append_assoc, append_nil, has_none)

-- so many nodes are there as were added
pub added_total : (d : Doc) (old new : List NodeId) (ns : List Node) → nodes_of d new ≡ nodes_of d old ++ ns → length new ≡ length old + length ns
added_total d old new ns e = sym (length_nodes d new) ∙ ap length e ∙ length-append (nodes_of d old) ns ∙ ap (λ k. k + length ns) (length_nodes d old)
