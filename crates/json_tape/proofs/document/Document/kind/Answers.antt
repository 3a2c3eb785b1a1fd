use Rattle.json_tape.proofs.Readers.{kind_is}
use Rattle.json_tape.proofs.document.Document.kind.Goals as goal

pub returns : goal.returns
returns c = kind_is c.args.self.now c.entry.ensures.document c.args.n.0 c.requires c.entry.result c.entry.ensures.value
