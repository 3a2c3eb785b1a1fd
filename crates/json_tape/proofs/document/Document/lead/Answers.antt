use Rattle.json_tape.proofs.Readers.{root_lead, index_lead, member_lead}
use Rattle.json_tape.proofs.document.Document.lead.Goals as goal

pub returns-in-Whole : goal.returns-in-Whole
returns-in-Whole c = root_lead c.args.self.now c.entry-entry.ensures.document c.args.n.0 c.requires c.entry-entry.result c.entry-entry.ensures.value c.in-Whole.is

pub returns-in-Element : goal.returns-in-Element
returns-in-Element c = index_lead c.args.self.now c.entry-entry.ensures.document c.args.n.0 c.requires c.entry-entry.result c.entry-entry.ensures.value c.in-Element.is

pub returns-in-Member : goal.returns-in-Member
returns-in-Member c = let m = member_lead c.args.self.now c.entry-entry.ensures.document c.args.n.0 c.requires c.entry-entry.result c.entry-entry.ensures.value c.in-Member.is in (_, m.2)
