use Rattle.json_tape.specs.Document.{node_at}
use Rattle.tape_values.specs.Sides.{side_value}
use Rattle.compared_sides.proofs.Cells.{is_cell}
use Rattle.compared_sides.proofs.sides.cell_of.Goals as goal

pub returns-clause-cell : goal.returns-clause-cell
returns-clause-cell c =
    let d = c.args.doc.now in
    is_cell d c.args.scale.now (node_at d c.args.child.0) (side_value d c.length_of-length.result) c.cell.result c.if-scale.false c.cell.ensures c.length_of-length.ensures.value
