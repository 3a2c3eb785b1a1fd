use Rattle.std.proofs.Common.{◌-◌, ◌∙◌, arith}
use Rattle.json_tape.specs.Document.{node_at}
use Rattle.tape_values.proofs.Lines.{in_line}
use Rattle.tape_values.proofs.indexes.element_in_line.Goals as goal

pub returns-then-after-n-clause-node : goal.returns-then-after-n-clause-node
returns-then-after-n-clause-node c =
    let all = c.requires.all in
    let place = c.requires.place in
    in_line c.args.doc.now c.args.n.0 (c.after.result - c.args.n.0) c.args.place (node_at c.args.doc.now c.args.n.0) c.after.ensures.nodes (c.if-after-n.true ∙ all) (omega (arith, all, place))
