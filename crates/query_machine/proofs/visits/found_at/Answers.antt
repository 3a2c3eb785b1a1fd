use Rattle.std.proofs.Common.{rules}
use Rattle.json_tape.specs.Document.{node_at}
use Rattle.json_tape.specs.Nodes.{children}
use Rattle.query_machine.proofs.Leaves.{childless, gives_node, passed_leaf, passed_link}
use Rattle.query_machine.proofs.visits.found_at.Goals as goal

pub returns-then-is_none-clause-found : goal.returns-then-is_none-clause-found
returns-then-is_none-clause-found c =
    let d = c.args.doc.now in
    passed_leaf d c.args.stage.now c.args.n.0 c.selectors_pay_in_parts.ensures (childless d c.first_child.result (children (node_at d c.args.n.0)) c.is_none.result (search rules) c.if-is_none.true c.first_child.ensures.nodes)

pub returns-in-None-step-clause-found : goal.returns-in-None-step-clause-found
returns-in-None-step-clause-found c =
    passed_link c.args.doc.now c.args.stage.now c.args.n.0 c.in-Some.link.now (rw c.in-Some.is at c.requires.link) c.in-None-step.ensures.node

pub returns-in-Some-step-clause-found : goal.returns-in-Some-step-clause-found
returns-in-Some-step-clause-found c =
    gives_node c.args.doc.now c.args.stage.now c.args.n.0 c.in-Some.link.now (rw c.in-Some.is at c.requires.link) c.in-Some-step.found c.in-Some-step.ensures.node
