use Rattle.std.proofs.Common.{arith}
use Rattle.json_tape.proofs.Readers.{root_lead, parent_is, child_among, up_in}
use Rattle.json_tape.proofs.document.Document.parent.Goals as goal

pub returns-in-Whole-clause-node : goal.returns-in-Whole-clause-node
returns-in-Whole-clause-node c = root_lead c.args.self.now c.entry-entry.ensures.document c.args.n.0 c.requires c.entry-entry.result c.entry-entry.ensures.value c.in-Whole.is

pub returns-in-Element : goal.returns-in-Element
returns-in-Element c = grind (arith, parent_is, child_among, up_in)
