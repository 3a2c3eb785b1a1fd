use Rattle.std.proofs.Common.{◌∙◌, sym, refl}
use Rattle.json_strings.specs.Keys.{sought_name}
use Rattle.json_tape.proofs.WideNodes.{found_first, found_none, object_in, found_in, same_name}
use Rattle.json_tape.proofs.document.Document.sought_in.Goals as goal

pub returns-in-Some-member_in-clause-node : goal.returns-in-Some-member_in-clause-node
returns-in-Some-member_in-clause-node c =
    let o = object_in c.args.self.now c.in-Some.ensures.document c.args.n.0 c.requires.inside c.requires.object in
    found_first c.args.self.now c.in-Some.ensures.document (sought_name c.args.sought) c.in-Some.factor c.args.n.0 c.in-Some.words.now c.in-Some.ensures.order o.0 o.1 c.in-Some-member_in.number c.in-Some-member_in.ensures.found.0
    (sym (same_name _ c.args.self.now c.self.view_is c.deref.result.now c.deref.ensures c.in-Some-member_in.number) ∙ c.in-Some-member_in.ensures.found.1)

pub returns-in-Some-member_in-clause-inside : goal.returns-in-Some-member_in-clause-inside
returns-in-Some-member_in-clause-inside c = found_in c.in-Some.factor c.args.self.now c.in-Some.words.now c.in-Some.ensures.order.named c.in-Some-member_in.number c.in-Some-member_in.ensures.found.0

pub returns-in-None-member_in-clause-node : goal.returns-in-None-member_in-clause-node
returns-in-None-member_in-clause-node c =
    let o = object_in c.args.self.now c.in-Some.ensures.document c.args.n.0 c.requires.inside c.requires.object in
    found_none c.args.self.now c.in-Some.ensures.document (sought_name c.args.sought) c.in-Some.factor c.args.n.0 c.in-Some.words.now c.in-Some.ensures.order o.0 o.1
    (λ k l e. c.in-None-member_in.ensures.none refl k l (same_name _ c.args.self.now c.self.view_is c.deref.result.now c.deref.ensures _ ∙ e))
