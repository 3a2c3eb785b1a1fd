use Rattle.std.proofs.Common.{◌≡◌, length, ◌∙◌, arith}
use Rattle.tape_cells.specs.Cells.{cell_span, no_side}
use Rattle.tape_cells.proofs.Sides.{entries_many, holder_kind, container_kept}
use Rattle.tape_cells.proofs.compact.Tape.open.Goals as goal

pub invariant_of-self-in-Ok : goal.invariant_of-self-in-Ok
invariant_of-self-in-Ok c = let h = holder_kind c.new.result c.args.kind c.new.ensures.kind ∙ c.requires.container in
    let m = entries_many _ _ _ c.self.view_is in
    let number : cell_span c.new.result ≡ length c.self.inside.sides.items = omega (arith, c.new.ensures.span, c.len-number.ensures, c.self.inside.sides.ok.0) in
    rw c.in_ok-push.ensures.items (rw c.in-Ok.ensures.items (container_kept c.self.inside.cells.items c.self.inside.sides.items c.new.result no_side c.self.invariant h number (omega (arith, m, c.requires.room))))
