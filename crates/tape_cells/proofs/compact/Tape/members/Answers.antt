use Rattle.std.proofs.Common.{arith}
use Rattle.tape_cells.proofs.Sides.{entries_many}
use Rattle.tape_cells.proofs.compact.Tape.members.Goals as goal

pub index-cell-requires : goal.index-cell-requires
index-cell-requires c = let m = entries_many _ _ _ c.self.view_is in omega (arith, m, c.requires, c.self.inside.cells.ok.0)
