use Rattle.json_text.proofs.Names.{inl, inr, rules, false≢true}
use Rattle.json_tape.proofs.Readers.{member_lead, member_role}
use Rattle.json_tape.proofs.document.Document.has_name.Goals as goal

pub returns-in-Member : goal.returns-in-Member
returns-in-Member c = ((λ _. let m = member_lead c.args.self.now c.entry.ensures.document c.args.n.0 c.requires c.entry.result c.entry.ensures.value c.in-Member.is in (_, m.2)), (λ _. search rules))

pub returns-in-Whole : goal.returns-in-Whole
returns-in-Whole c = ((λ e. absurd (false≢true e)), (λ x. let m = member_role c.args.self.now c.entry.ensures.document c.args.n.0 c.requires c.entry.result c.entry.ensures.value x in elim c.in-Whole.is [ inl y ↦ absurd (cc) | inr y ↦ absurd (cc) ]))
