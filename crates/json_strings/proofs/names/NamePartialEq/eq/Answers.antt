use Rattle.json_text.proofs.Names.{◌∙◌, sym, ap, nat_cmp, is_eq, slice_cmp, arith}
use Rattle.std.specs.Cmp.Lexicographic.{texts_ties}
use Rattle.json_strings.proofs.PlainNames.{plain_same}
use Rattle.json_strings.proofs.names.NamePartialEq.eq.Goals as goal

pub returns-then-other : goal.returns-then-other
returns-then-other c = grind (arith, plain_same)

pub returns : goal.returns
returns c =
    c.is_eq.ensures ∙ ap is_eq (c.compare.ensures ∙ ap (λ l. slice_cmp nat_cmp l c.new-2.result) (c.new.ensures ∙ c.self.view_is) ∙ ap (λ l. slice_cmp nat_cmp c.args.self.now l) (c.new-2.ensures ∙ c.other.view_is))
    ∙ sym (texts_ties c.args.self.now c.args.other.now)
