use Rattle.std.proofs.Common.{◌≡◌, ◌++◌, drop}
use Rattle.std.specs.Prelude.{flat_map}
use Rattle.json_tape.specs.Document.{node_at}
use Rattle.node_lists.specs.Evaluation.{selected_by}
use Rattle.node_lists.specs.Nodelists.{nodes_of}
use Rattle.node_lists.specs.Paying.{Inside}
use Rattle.node_lists.specs.Links.{link_selector}
use Rattle.node_lists.proofs.steps.stepped.Given as goal

abbrev pub invariant-loop-n : goal.invariant-loop-n
invariant-loop-n l = record {
  same : nodes_of l.doc l.out.items ++ flat_map (selected_by (node_at l.doc 0) (link_selector l.link)) (nodes_of l.doc (drop l.n-index l.input))
      ≡ flat_map (selected_by (node_at l.doc 0) (link_selector l.link)) (nodes_of l.doc l.input);
  sound : Inside l.doc l.out.items;
}
