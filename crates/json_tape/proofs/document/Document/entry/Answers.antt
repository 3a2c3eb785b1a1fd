use Rattle.std.proofs.Common.{arith}
use Rattle.json_tape.proofs.Readers.{is_document, shown, within}
use Rattle.json_tape.proofs.document.Document.entry.Goals as goal

pub entry-requires : goal.entry-requires
entry-requires c = let l = within _ c.args.self.now c.self.view_is c.args.n.0 c.requires in omega (arith, l)

pub returns-clause-document : goal.returns-clause-document
returns-clause-document c = is_document _ c.args.self.now c.self.view_is c.self.invariant.0

pub returns-clause-value : goal.returns-clause-value
returns-clause-value c = shown _ c.args.self.now c.self.view_is _ _ c.entry.ensures
