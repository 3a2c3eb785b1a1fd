use Rattle.std.proofs.Common.{◌≡◌, ◌++◌, drop, map}
use Rattle.tape_select.specs.Nodelists.{nodes_of}
use Rattle.client_lines.specs.Answers.{found_in, node_lines}
use Rattle.client_lines.specs.Lines.{AreUtf8}
use Rattle.client_lines.proofs.answers.append_nodes.Given as goal

abbrev pub invariant-loop-node : goal.invariant-loop-node
invariant-loop-node l =
    (l.out.items ++ node_lines l.json l.name.bytes.now (nodes_of l.document (drop l.node-index l.nodes)) ≡ l.fn.out.items ++ node_lines l.json l.name.bytes.now (nodes_of l.document l.nodes))
    × (AreUtf8 (map (found_in l.name.bytes.now) (nodes_of l.document l.nodes)) → AreUtf8 (map (found_in l.name.bytes.now) (nodes_of l.document (drop l.node-index l.nodes))))
