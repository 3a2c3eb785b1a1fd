use Rattle.std.proofs.Common.{Some, ap, sym, ◌∙◌}
use Rattle.json_tape.specs.Document.{node_at}
use Rattle.tape_values.specs.Comparison.{value_of}
use Rattle.tape_values.specs.Functions.{length_value}
use Rattle.tape_values.specs.Sides.{side_value}
use Rattle.compared_sides.proofs.Cells.{is_cell_beside}
use Rattle.compared_sides.proofs.sides.cell_beside.Goals as goal

pub returns-in-Some-clause-cell : goal.returns-in-Some-clause-cell
returns-in-Some-clause-cell c =
    let d = c.args.doc.now in
    let long = ap (λ k. length_value (Some (value_of (node_at d k).tree))) (sym c.root.ensures.first) ∙ c.in-Some.ensures.value in
    is_cell_beside d c.args.scale.now (node_at d c.args.child.0) (side_value d c.length_of-length.result) c.in-Some.total c.cell_beside.result c.requires.rooted c.cell_beside.ensures c.length_of-length.ensures.value
    long (c.are_apart.ensures.apart c.if-not-are_apart.false)
