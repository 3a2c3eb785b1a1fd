use Rattle.std.proofs.Common.{arith}
use Rattle.tape_cells.proofs.Sides.{entries_many}
use Rattle.tape_cells.proofs.compact.Tape.len.Goals as goal

pub returns-clause-value : goal.returns-clause-value
returns-clause-value c = let e = entries_many _ _ c.args.self.now c.self.view_is in omega (arith, e, c.len.ensures)
