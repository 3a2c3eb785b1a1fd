use Rattle.json_text.proofs.Names.{◌∙◌, sym}
use Rattle.json_tape.proofs.Readers.{kind_is, length_is}
use Rattle.json_tape.proofs.document.Document.length.Goals as goal

pub string_scalars-requires-clause-string : goal.string_scalars-requires-clause-string
string_scalars-requires-clause-string c = sym (kind_is c.args.self.now c.entry-entry.ensures.document c.args.n.0 c.requires c.entry-entry.result c.entry-entry.ensures.value) ∙ c.in-Text.is

pub returns-in-Array : goal.returns-in-Array
returns-in-Array c = length_is c.args.self.now c.entry-entry.ensures.document c.args.n.0 c.requires c.entry-entry.result c.entry-entry.ensures.value c.in-Array.is
