use Rattle.std.proofs.Common.{◌≡◌, ◌+◌, ◌-◌, ◌≤◌, ◌++◌, length, vec_len, vec_capacity}
use Rattle.node_lists.specs.Nodelists.{nodes_of, children_between}
use Rattle.node_lists.specs.Paying.{Inside}
use Rattle.node_lists.proofs.descendants.push_below.Given as goal

abbrev pub invariant-loop-k : goal.invariant-loop-k
invariant-loop-k l = record {
  same : nodes_of l.doc l.out.items ++ children_between l.doc l.k l.end ≡ nodes_of l.doc l.initial.out.items ++ children_between l.doc l.fn.n.0 l.end;
  sound : Inside l.doc l.out.items;
  room : vec_len l.out + length (children_between l.doc l.k l.end) ≤ vec_capacity l.out;
}

abbrev pub decreases-loop-k : goal.decreases-loop-k
decreases-loop-k l = l.end - l.k
