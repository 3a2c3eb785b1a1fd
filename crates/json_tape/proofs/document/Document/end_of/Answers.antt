use Rattle.std.proofs.Common.{arith}
use Rattle.json_tape.proofs.Readers.{is_document, within}
use Rattle.json_tape.proofs.Siblings.{end_is}
use Rattle.json_tape.proofs.document.Document.end_of.Goals as goal

pub after-requires : goal.after-requires
after-requires c = let l = within _ c.args.self.now c.self.view_is c.args.n.0 c.requires in omega (arith, l)

pub returns-clause-document : goal.returns-clause-document
returns-clause-document c = is_document _ c.args.self.now c.self.view_is c.self.invariant.0

pub returns-clause-value : goal.returns-clause-value
returns-clause-value c = (end_is _ c.args.self.now c.self.view_is (is_document _ c.args.self.now c.self.view_is c.self.invariant.0) c.args.n.0 c.requires c.after.result c.after.ensures).0

pub returns-clause-inside : goal.returns-clause-inside
returns-clause-inside c = (end_is _ c.args.self.now c.self.view_is (is_document _ c.args.self.now c.self.view_is c.self.invariant.0) c.args.n.0 c.requires c.after.result c.after.ensures).1
