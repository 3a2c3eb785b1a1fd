use Rattle.json_tape.proofs.Readers.{up_in, next_is, next_in, last_is}
use Rattle.json_tape.proofs.document.Document.next_sibling.Goals as goal

pub entry-outer-requires : goal.entry-outer-requires
entry-outer-requires c = up_in c.args.self.now c.entry-entry.ensures.document c.args.n.0 c.requires c.entry-entry.result c.entry-entry.ensures.value

pub returns-then-entry-outer-clause-nodes : goal.returns-then-entry-outer-clause-nodes
returns-then-entry-outer-clause-nodes c = next_is c.args.self.now c.entry-entry.ensures.document c.args.n.0 c.requires c.entry-entry.result c.entry-entry.ensures.value c.entry-outer.result c.entry-outer.ensures.value c.if-entry-outer.true

pub returns-then-entry-outer-clause-inside : goal.returns-then-entry-outer-clause-inside
returns-then-entry-outer-clause-inside c = next_in c.args.self.now c.entry-entry.ensures.document c.args.n.0 c.requires c.entry-entry.result c.entry-entry.ensures.value c.entry-outer.result c.entry-outer.ensures.value c.if-entry-outer.true

pub returns-else-entry-outer-clause-nodes : goal.returns-else-entry-outer-clause-nodes
returns-else-entry-outer-clause-nodes c = last_is c.args.self.now c.entry-entry.ensures.document c.args.n.0 c.requires c.entry-entry.result c.entry-entry.ensures.value c.entry-outer.result c.entry-outer.ensures.value c.if-entry-outer.false
