use Rattle.std.proofs.Common.{◌≡◌, ◌++◌, length, take, drop, map}
use Rattle.tape_select.specs.Nodelists.{nodes_of}
use Rattle.tenant_store.specs.Hits.{hit_of}
use Rattle.path_server.specs.Lines.{lines_of}
use Rattle.path_server.proofs.lines.write_all.Given as goal

abbrev pub invariant-loop-node : goal.invariant-loop-node
invariant-loop-node l = record {
  same : l.out.items ++ lines_of (map hit_of (nodes_of l.document (drop l.node-index l.nodes))) ≡ l.fn.out.items ++ lines_of (map hit_of (nodes_of l.document l.nodes));
  kept : take (length l.fn.out.items) l.out.items ≡ l.fn.out.items;
}
