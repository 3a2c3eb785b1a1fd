use Rattle.json_tape.specs.Document.{node_at, HasName}
use Rattle.json_tape.specs.Nodes.{children, is_named}
use Rattle.tape_values.proofs.Twins.{among_first}
use Rattle.tape_values.proofs.guesses.namesake.Goals as goal

pub returns-then-has_name-clause-among : goal.returns-then-has_name-clause-among
returns-then-has_name-clause-among c =
    let d = c.args.doc.now in
    let named : HasName (node_at d c.args.m.0) = c.has_name.ensures.0 c.if-has_name.true in
    among_first d (is_named named.0) (children (node_at d c.args.object.0)) c.twin.result (c.twin.ensures.node named.0 named.1)
