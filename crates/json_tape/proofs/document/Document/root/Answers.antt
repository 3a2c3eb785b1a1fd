use Rattle.json_tape.proofs.Readers.{is_document, some_entry, root_is, number_is, small_count}
use Rattle.json_tape.proofs.document.Document.root.Goals as goal

pub returns-clause-inside : goal.returns-clause-inside
returns-clause-inside c = some_entry c.args.self.now (is_document _ c.args.self.now c.self.view_is c.self.invariant.0)

pub returns-clause-root : goal.returns-clause-root
returns-clause-root c = root_is c.args.self.now (is_document _ c.args.self.now c.self.view_is c.self.invariant.0)

pub returns-clause-numbered : goal.returns-clause-numbered
returns-clause-numbered c = number_is c.args.self.now (is_document _ c.args.self.now c.self.view_is c.self.invariant.0)

pub returns-clause-small : goal.returns-clause-small
returns-clause-small c = small_count c.args.self.now (is_document _ c.args.self.now c.self.view_is c.self.invariant.0)

pub returns-clause-accepted : goal.returns-clause-accepted
returns-clause-accepted c = (is_document _ c.args.self.now c.self.view_is c.self.invariant.0).accepted

pub returns-clause-tape : goal.returns-clause-tape
returns-clause-tape c = (is_document _ c.args.self.now c.self.view_is c.self.invariant.0).tape
