use Rattle.std.proofs.Common.{arith}
use Rattle.tape_cells.proofs.Sides.{entries_many, label_shown}
use Rattle.tape_cells.proofs.compact.Tape.label.Goals as goal

pub index-requires : goal.index-requires
index-requires c = let m = entries_many _ _ _ c.self.view_is in omega (arith, m, c.requires, c.self.inside.cells.ok.0)

pub returns : goal.returns
returns c e q = grind (arith, entries_many, label_shown)
