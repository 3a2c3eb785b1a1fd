use Rattle.std.proofs.Common.{◌≡◌, ◌≤◌, [], ◌++◌, vec_len, vec_capacity}
use Rattle.node_lists.specs.Nodelists.{nodes_of, children_between}
use Rattle.node_lists.proofs.Adding.{Draws}
use Rattle.node_lists.proofs.nodes.push_leaves.Given as goal

abbrev pub invariant-loop-next : goal.invariant-loop-next
invariant-loop-next l = record {
  draws : Draws l.doc (nodes_of l.doc l.initial.out.items ++ nodes_of l.doc l.initial.left) l.out.items l.left (vec_len l.out) (vec_capacity l.out);
  capacity : vec_capacity l.out ≡ vec_capacity l.initial.out;
  past : l.fn.from ≤ l.next;
  childless : children_between l.doc l.fn.from l.next ≡ [];
}
