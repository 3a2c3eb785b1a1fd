use Rattle.std.proofs.Common.{rules}
use Rattle.json_tape.specs.Document.{node_at}
use Rattle.query_machine.proofs.Above.{begins_some}
use Rattle.query_machine.proofs.levels.track_from.Goals as goal

pub returns-in-Ok-push : goal.returns-in-Ok-push
returns-in-Ok-push c =
    let e = c.cursor_at-c.ensures in
    begins_some c.args.doc.now c.args.stages.now c.in-Some.stage.now c.cursor_at-c.result (node_at c.args.doc.now c.args.n.0) _ (search rules) (search rules) e.stage e.visit e.end e.child e.stride e.nodes e.charge (search rules) (search rules)
