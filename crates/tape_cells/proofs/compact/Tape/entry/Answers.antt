use Rattle.std.proofs.Common.{arith, slice_index_or}
use Rattle.tape_cells.proofs.Sides.{entries_many, side_inside, leaf_shown, container_shown}
use Rattle.tape_cells.proofs.compact.Tape.entry.Goals as goal
use Rattle.tape_cells.proofs.compact.Tape.entry.Goals.{then-holds, else-holds}

pub index-cell-requires : goal.index-cell-requires
index-cell-requires c = let m = entries_many _ _ _ c.self.view_is in omega (arith, m, c.requires, c.self.inside.cells.ok.0)

pub index-side-requires : goal.index-side-requires
index-side-requires c = grind (arith, side_inside, entries_many)

pub overflow_add-len : goal.overflow_add-len
overflow_add-len c = let m = entries_many _ _ _ c.self.view_is in let f = c.self.invariant.few in omega (arith, m, f, c.requires)

pub returns : goal.returns
returns c = grind (arith, entries_many, then-holds, side_inside, container_shown, slice_index_or, else-holds, leaf_shown)
