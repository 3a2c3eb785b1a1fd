use Rattle.std.proofs.Common.{[], ◌∷◌, length, sym, reverse, subst}
use Rattle.tape_cells.specs.Cells.{leaf_entry}
use Rattle.tape_cells.specs.Opened.{AreOpened}
use Rattle.tape_cells.proofs.Keeping.{unless_err, opened_more}
use Rattle.tape_cells.proofs.builder.Builder.leaf.Goals as goal

pub invariant_of-self-2 : goal.invariant_of-self-2
invariant_of-self-2 c = let k = c.self.invariant in
    let grown = opened_more c.self.inside.tape (leaf_entry c.args.kind c.seat_in-seat.result c.args.source (length c.self.inside.tape) ∷ []) (c.self.inside.top ∷ reverse c.self.inside.outer.items) k in
    let m = subst (λ es. AreOpened es (c.self.inside.top ∷ reverse c.self.inside.outer.items)) (sym (unless_err c.leaf.result c.if-is_err.ensures.value c.leaf.ensures.added)) grown in
    (m.0, m.1, m.2)
