use Rattle.std.proofs.lemmas.Result.{on_ok_weaker, on_err_weaker}
use Rattle.json_tape.specs.Document.{node_at}
use Rattle.tenant_store.specs.Hits.{hit_of}
use Rattle.path_server.proofs.Breaking.{at_err, head_stops, value_stops, feed_stops, line_added}
use Rattle.path_server.proofs.pieces.add_line.Goals as goal

pub returns-in_err-write_head-clause-front : goal.returns-in_err-write_head-clause-front
returns-in_err-write_head-clause-front g c =
    let hit = hit_of (node_at c.args.document.now c.args.node.0) in
    at_err c.from_residual.result (head_stops c.args.held.now.items hit.path hit.source (g.W.Write.contents c.args.writer.now))

pub returns-in_err-add-clause-front : goal.returns-in_err-add-clause-front
returns-in_err-add-clause-front g c =
    let hit = hit_of (node_at c.args.document.now c.args.node.0) in
    let broken = rw c.text.ensures.value at c.in_err-add.ensures.front in
    at_err c.from_residual-in_err-add.result (value_stops c.args.held.now.items hit.path hit.source _ _ _ c.in_ok-write_head.ensures.written broken)

pub returns-clause-written : goal.returns-clause-written
returns-clause-written g c =
    let hit = hit_of (node_at c.args.document.now c.args.node.0) in
    let written = rw c.text.ensures.value at c.in_ok-add.ensures.written in
    on_ok_weaker c.add-2.result (line_added c.args.held.now.items hit.path hit.source _ _ _ _ _ _ c.in_ok-write_head.ensures.written written) c.add-2.ensures.written

pub returns-clause-front : goal.returns-clause-front
returns-clause-front g c =
    let hit = hit_of (node_at c.args.document.now c.args.node.0) in
    let written = rw c.text.ensures.value at c.in_ok-add.ensures.written in
    on_err_weaker c.add-2.result (feed_stops c.args.held.now.items hit.path hit.source _ _ _ _ _ c.in_ok-write_head.ensures.written written) c.add-2.ensures.front
