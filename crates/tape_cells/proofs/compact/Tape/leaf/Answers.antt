use Rattle.std.proofs.Common.{sym, ◌∙◌, subst, arith}
use Rattle.tape_cells.specs.Cells.{IsTape}
use Rattle.tape_cells.proofs.Sides.{entries_many, holder_kind, leaf_kept, leaf_added}
use Rattle.tape_cells.proofs.compact.Tape.leaf.Goals as goal

pub invariant_of-self-2 : goal.invariant_of-self-2
invariant_of-self-2 c =
    let h = holder_kind c.new.result c.args.kind c.new.ensures.kind ∙ c.requires.scalar in let m = entries_many _ _ _ c.self.view_is in
    subst (λ l. IsTape l c.self.inside.sides.items) (sym c.in_ok-push.ensures.items) (leaf_kept c.self.inside.cells.items c.self.inside.sides.items c.new.result c.self.invariant h (omega (arith, m, c.requires.room)))

pub returns-clause-added : goal.returns-clause-added
returns-clause-added c = grind (arith, holder_kind, leaf_added)
