use Rattle.std.proofs.Common.{sym, arith}
use Rattle.json_tape.proofs.Readers.{childless_is, child_is, child_in, small_count}
use Rattle.json_tape.proofs.document.Document.first_child.Goals as goal

pub overflow_add-result : goal.overflow_add-result
overflow_add-result c = grind (arith, child_in, small_count)

pub returns-then-entry-eq0-clause-nodes : goal.returns-then-entry-eq0-clause-nodes
returns-then-entry-eq0-clause-nodes c = sym (childless_is c.args.self.now c.entry.ensures.document c.args.n.0 c.requires c.entry.result c.entry.ensures.value c.if-entry-eq0.true)

pub returns-else-entry-eq0-clause-nodes : goal.returns-else-entry-eq0-clause-nodes
returns-else-entry-eq0-clause-nodes c = child_is c.args.self.now c.entry.ensures.document c.args.n.0 c.requires c.entry.result c.entry.ensures.value c.if-entry-eq0.false

pub returns-else-entry-eq0-clause-inside : goal.returns-else-entry-eq0-clause-inside
returns-else-entry-eq0-clause-inside c = child_in c.args.self.now c.entry.ensures.document c.args.n.0 c.requires c.entry.result c.entry.ensures.value c.if-entry-eq0.false
