use Rattle.path_server.proofs.Breaking.{at_err, stops_further, stops_before}
use Rattle.path_server.proofs.Walking.{next_stops_short, next_is_written}
use Rattle.path_server.proofs.pieces.write_pieces.Goals as goal

pub returns-in_err-add_line-clause-front : goal.returns-in_err-add_line-clause-front
returns-in_err-add_line-clause-front g c =
    at_err c.from_residual.result (next_stops_short c.args.document.now c.args.nodes.now c.loop-node.node-index (record { 0 = 0 }) c.loop-node.held.items _
    (g.W.Write.contents c.args.writer.now) (g.W.Write.contents c.loop-node.writer) (g.W.Write.contents c.add_line.new.writer)
    c.loop-node-test.true c.loop-node.invariant c.in_err-add_line.ensures.front)

pub loop-node-preserved : goal.loop-node-preserved
loop-node-preserved g c =
    next_is_written c.args.document.now c.args.nodes.now c.loop-node.node-index (record { 0 = 0 }) c.loop-node.held.items c.add_line.new.held.items _
    (g.W.Write.contents c.args.writer.now) (g.W.Write.contents c.loop-node.writer) (g.W.Write.contents c.add_line.new.writer)
    c.loop-node-test.true c.loop-node.invariant c.in_ok-add_line.ensures.written

pub returns-in_err-write_held-clause-front : goal.returns-in_err-write_held-clause-front
returns-in_err-write_held-clause-front g c =
    at_err c.from_residual-in_err-write_held.result (stops_further _ _ _ _ _ c.loop-node.invariant (stops_before _ _ _ _ c.in_err-write_held.ensures.short))
