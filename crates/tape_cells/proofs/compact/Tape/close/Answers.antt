use Rattle.std.proofs.Common.{arith}
use Rattle.tape_cells.proofs.Sides.{closing_inside}
use Rattle.tape_cells.proofs.compact.Tape.close.Goals as goal

pub index-requires : goal.index-requires
index-requires c =
    let w = closing_inside c.self.inside.cells.items c.self.inside.sides.items c.args.self.now c.args.number (record { start = 0; span = 0; label = 0; up = 0 }) c.self.view_is c.requires.container in
    omega (arith, w.0, c.self.inside.cells.ok.0)
