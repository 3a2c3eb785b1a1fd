use Rattle.std.proofs.Common.{[], ◌∷◌, sym, reverse, subst, arith}
use Rattle.tape_cells.specs.Cells.{open_entry}
use Rattle.tape_cells.specs.Opened.{AreOpened}
use Rattle.tape_cells.proofs.Keeping.{unless_err, opened_more, container_here, pushed, not_pushed}
use Rattle.tape_cells.proofs.builder.Builder.open.Goals as goal

pub invariant_of-self-then-is_err-2 : goal.invariant_of-self-then-is_err-2
invariant_of-self-then-is_err-2 c =
    let same = not_pushed c.push.result c.push.new.list.items c.self.inside.outer.items _ c.if-is_err-2.ensures.value c.push.ensures.items in
    let os = c.self.inside.top ∷ reverse c.self.inside.outer.items in
    let grown = opened_more c.self.inside.tape (open_entry c.kind_of.result c.seat_in-seat.result c.args.place ∷ []) os c.self.invariant in
    let m = subst (λ es. AreOpened es os) (sym (unless_err c.open.result c.if-is_err.ensures.value c.open.ensures.added)) grown in rw same m

pub invariant_of-self-2 : goal.invariant_of-self-2
invariant_of-self-2 c = grind (arith, pushed, unless_err, opened_more, container_here)
