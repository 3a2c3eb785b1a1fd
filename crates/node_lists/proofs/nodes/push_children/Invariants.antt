use Rattle.std.proofs.Common.{◌≡◌, ◌++◌, vec_len, vec_capacity}
use Rattle.json_tape.specs.Document.{node_at}
use Rattle.json_tape.specs.Nodes.{children}
use Rattle.node_lists.specs.Nodelists.{nodes_of}
use Rattle.node_lists.proofs.Adding.{Draws}
use Rattle.node_lists.proofs.nodes.push_children.Given as goal

abbrev pub invariant-loop-child : goal.invariant-loop-child
invariant-loop-child l = record {
  draws : Draws l.doc (nodes_of l.doc l.fn.out.items ++ children (node_at l.doc l.fn.n.0)) l.out.items l.child-iterator (vec_len l.out) (vec_capacity l.out);
  capacity : vec_capacity l.out ≡ vec_capacity l.fn.out;
}
