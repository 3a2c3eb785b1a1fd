use Rattle.std.proofs.Common.{arith}
use Rattle.json_tape.proofs.Readers.{small_count}
use Rattle.json_tape.proofs.Siblings.{all_there}
use Rattle.json_tape.proofs.children.Children.new.Goals as goal

pub overflow_add-result : goal.overflow_add-result
overflow_add-result c = grind (arith, small_count)

pub invariant_of-result : goal.invariant_of-result
invariant_of-result c = ((all_there c.args.document.now c.end_of-end.ensures.document c.args.n.0 c.requires c.end_of-end.result c.end_of-end.ensures.value).0, c.end_of-end.ensures.inside)

pub returns-clause-nodes : goal.returns-clause-nodes
returns-clause-nodes c = (all_there c.args.document.now c.end_of-end.ensures.document c.args.n.0 c.requires c.end_of-end.result c.end_of-end.ensures.value).1 c.end_of-end.ensures.inside

pub returns-clause-inside : goal.returns-clause-inside
returns-clause-inside c = (all_there c.args.document.now c.end_of-end.ensures.document c.args.n.0 c.requires c.end_of-end.result c.end_of-end.ensures.value).2 c.end_of-end.ensures.inside
