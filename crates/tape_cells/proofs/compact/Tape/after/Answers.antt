use Rattle.std.proofs.Common.{◌<◌, length, sym, ap, ◌∙◌, arith, slice_index_or}
use Rattle.json_text.specs.declared.tape.Entry.{Entry}
use Rattle.tape_cells.proofs.Sides.{entries_many, side_inside, leaf_shown, container_shown}
use Rattle.tape_cells.proofs.compact.Tape.after.Goals as goal

pub index-cell-requires : goal.index-cell-requires
index-cell-requires c = let m = entries_many _ _ _ c.self.view_is in omega (arith, m, c.requires, c.self.inside.cells.ok.0)

pub index-requires : goal.index-requires
index-requires c = grind (arith, side_inside, entries_many)

pub overflow_add-result : goal.overflow_add-result
overflow_add-result c = let m = entries_many _ _ _ c.self.view_is in let f = c.self.invariant.few in omega (arith, m, f, c.requires)

pub returns-then-holds : goal.returns-then-holds
returns-then-holds c e q = let inside : c.args.n < length c.self.inside.cells.items = omega (arith, entries_many _ _ _ c.self.view_is, c.requires) in
    let h = sym c.holds.ensures ∙ c.if-holds.true in
    let l = side_inside c.self.inside.cells.items c.self.inside.sides.items c.args.n c.index-cell.result.now c.self.invariant inside c.index-cell.ensures h in
    let s = c.index.ensures ∙ ap (λ i. slice_index_or c.self.inside.sides.items i c.index.result.now) c.span.ensures in
    ap (λ (x : Entry). x.after) (container_shown c.self.inside.cells.items c.self.inside.sides.items c.args.self.now c.args.n c.index-cell.result.now c.index.result.now e c.self.view_is inside c.index-cell.ensures h l s ∙ sym q)

pub returns-else-holds : goal.returns-else-holds
returns-else-holds c e q = let inside : c.args.n < length c.self.inside.cells.items = omega (arith, entries_many _ _ _ c.self.view_is, c.requires) in
    let h = sym c.holds.ensures ∙ c.if-holds.false in
    ap (λ (x : Entry). x.after) (leaf_shown c.self.inside.cells.items c.self.inside.sides.items c.args.self.now c.args.n c.index-cell.result.now e c.self.view_is inside c.index-cell.ensures h ∙ sym q)
