use Rattle.std.proofs.Common.{◌≡◌, ◌-◌, ◌++◌}
use Rattle.std.specs.Prelude.{flat_map}
use Rattle.json_tape.specs.Document.{node_at, seen, counting}
use Rattle.path_grammar.specs.Tree.{selector, no_selectors, name}
use Rattle.node_lists.specs.Evaluation.{selected}
use Rattle.node_lists.specs.Nodelists.{nodes_of}
use Rattle.node_lists.specs.Paying.{Inside}
use Rattle.node_lists.proofs.descendants.named.Given as goal

abbrev pub invariant-loop-k : goal.invariant-loop-k
invariant-loop-k l = record {
  same : nodes_of l.doc l.out.items ++ flat_map (selected (node_at l.doc 0) (selector (name l.wanted.scalars.items) no_selectors)) (seen l.doc (counting l.k (l.end - l.k)))
      ≡ nodes_of l.doc l.initial.out.items ++ flat_map (selected (node_at l.doc 0) (selector (name l.wanted.scalars.items) no_selectors)) (seen l.doc (counting l.fn.n.0 (l.end - l.fn.n.0)));
  sound : Inside l.doc l.out.items;
}
