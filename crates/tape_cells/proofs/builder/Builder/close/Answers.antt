use Rattle.std.proofs.Common.{[], ◌∷◌, length, sym, ap, ◌∙◌, reverse, subst}
use Rattle.std.proofs.lemmas.List.{reverse-append}
use Rattle.tape_cells.specs.Opened.{AreOpened}
use Rattle.tape_cells.proofs.Keeping.{opened_closed}
use Rattle.tape_cells.proofs.builder.Builder.close.Goals as goal

pub invariant_of-self-in-Some : goal.invariant_of-self-in-Some
invariant_of-self-in-Some c = let o = c.in-Some.outer in let os = reverse c.pop.new.self.items in
    let r = ap reverse c.in-Some.ensures.items ∙ reverse-append c.pop.new.self.items (o ∷ []) in
    let rest = subst (AreOpened c.self.inside.tape) r c.self.invariant.2 in
    let m = subst (λ es. AreOpened es (o ∷ os)) (sym c.close.ensures) (opened_closed c.self.inside.tape (o ∷ os) c.self.inside.top.entry c.args.place c.self.inside.top.children (length c.self.inside.tape) rest) in
    m
