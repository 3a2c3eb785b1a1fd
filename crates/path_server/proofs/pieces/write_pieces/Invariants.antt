use Rattle.std.proofs.Common.{◌++◌, drop, map}
use Rattle.tape_select.specs.Nodelists.{nodes_of}
use Rattle.tenant_store.specs.Hits.{hit_of}
use Rattle.standard_streams.specs.Fronts.{WritesBut}
use Rattle.path_server.specs.Lines.{lines_of}
use Rattle.path_server.proofs.pieces.write_pieces.Given as goal

abbrev pub invariant-loop-node : goal.invariant-loop-node
invariant-loop-node g l = WritesBut (l.held.items ++ lines_of (map hit_of (nodes_of l.document (drop l.node-index l.nodes)))) (lines_of (map hit_of (nodes_of l.document l.nodes))) (g.W.Write.contents l.fn.writer) (g.W.Write.contents l.writer)
