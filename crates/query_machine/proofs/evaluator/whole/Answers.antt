use Rattle.json_tape.specs.Document.{tree_of}
use Rattle.node_lists.specs.Evaluation.{root_node}
use Rattle.query_machine.proofs.Shares.{ends_whole}
use Rattle.query_machine.proofs.evaluator.whole.Goals as goal

pub returns : goal.returns
returns c = ends_whole c.args.doc.now c.args.plan.now c.args.units (root_node (tree_of c.args.doc.now)) c.select_all.result c.root.ensures.root c.select_all.ensures
