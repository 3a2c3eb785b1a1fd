use Rattle.json_tape.specs.Document.{node_at}
use Rattle.std.proofs.Common.{refl}
use Rattle.query_machine.proofs.Steps.{cursor_of, opens, opens_due}
use Rattle.query_machine.proofs.cursor.cursor_at.Goals as goal

pub returns-clause-nodes : goal.returns-clause-nodes
returns-clause-nodes c =
    opens c.args.doc.now c.args.stage.now (cursor_of c.args.number c.args.n.0 c.visits_end-end.result c.no_stride.result) (node_at c.args.doc.now c.args.n.0) refl refl c.no_stride.ensures.passed c.visits_end-end.ensures.nodes

pub returns-clause-charge : goal.returns-clause-charge
returns-clause-charge c =
    opens_due c.args.doc.now c.args.stage.now (cursor_of c.args.number c.args.n.0 c.visits_end-end.result c.no_stride.result) (node_at c.args.doc.now c.args.n.0) refl refl c.no_stride.ensures.passed c.visits_end-end.ensures.nodes
