use Rattle.std.proofs.Common.{sym, ◌∙◌, arith}
use Rattle.json_tape.proofs.Readers.{kind_is}
use Rattle.json_tape.proofs.MembersSeen.{unnamed}
use Rattle.json_tape.proofs.document.Document.member.Goals as goal

pub first_named-requires-clause-object : goal.first_named-requires-clause-object
first_named-requires-clause-object c = sym (kind_is c.args.self.now c.entry-value.ensures.document c.args.n.0 c.requires c.entry-value.result c.entry-value.ensures.value) ∙ c.in-Object.is

pub first_by_bytes-requires-clause-object : goal.first_by_bytes-requires-clause-object
first_by_bytes-requires-clause-object c = sym (kind_is c.args.self.now c.entry-value.ensures.document c.args.n.0 c.requires c.entry-value.result c.entry-value.ensures.value) ∙ c.in-Object.is

pub returns-in-Null : goal.returns-in-Null
returns-in-Null c = grind (arith, unnamed, kind_is)

pub sought_in-requires-clause-object : goal.sought_in-requires-clause-object
sought_in-requires-clause-object c = sym (kind_is c.args.self.now c.entry-value.ensures.document c.args.n.0 c.requires c.entry-value.result c.entry-value.ensures.value) ∙ c.in-Object.is
