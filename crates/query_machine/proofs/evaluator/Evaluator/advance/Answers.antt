use Rattle.json_tape.specs.Document.{tree_of}
use Rattle.node_lists.specs.Evaluation.{root_node}
use Rattle.query_machine.proofs.Shares.{charged, document_is, nodes_found, within_after, within_here, within_text}
use Rattle.query_machine.proofs.evaluator.Evaluator.advance.Goals as goal

pub advanced-requires-clause-within : goal.advanced-requires-clause-within
advanced-requires-clause-within c =
    let r = c.root.ensures in
    within_here c.one_tree.ensures c.args.doc.now c.args.self.now.parts c.args.units c.args.self.now.evaluation (document_is c.args.doc.now r.accepted r.tape r.small) c.requires.within

pub returns-in-Ok-clause-nodes : goal.returns-in-Ok-clause-nodes
returns-in-Ok-clause-nodes c =
    let d = c.args.doc.now in
    nodes_found d c.args.self.now.parts c.args.units c.args.share (root_node (tree_of d)) c.in-Ok.some c.args.self.now.evaluation c.advanced.new.evaluation c.root.ensures.root c.in-Ok.ensures.yields

pub returns-in-Ok-clause-ready : goal.returns-in-Ok-clause-ready
returns-in-Ok-clause-ready c =
    let d = c.args.doc.now in
    let r = c.root.ensures in
    record {
      numbered = c.requires.numbered;
      within = within_text d c.args.self.now.parts c.args.units c.advanced.new.evaluation (document_is d r.accepted r.tape r.small)
          (within_after d c.args.self.now.parts c.args.units c.args.share c.in-Ok.some c.args.self.now.evaluation c.advanced.new.evaluation c.in-Ok.ensures.yields);
    }

pub returns-in-Ok-clause-due : goal.returns-in-Ok-clause-due
returns-in-Ok-clause-due c =
    let d = c.args.doc.now in
    let r = c.root.ensures in
    charged d c.args.self.now.parts c.args.units (root_node (tree_of d)) c.args.self.now.evaluation r.root
    (within_here c.one_tree.ensures d c.args.self.now.parts c.args.units c.args.self.now.evaluation (document_is d r.accepted r.tape r.small) c.requires.within)

pub returns-in-Ok-clause-due_on : goal.returns-in-Ok-clause-due_on
returns-in-Ok-clause-due_on c =
    let d = c.args.doc.now in
    charged d c.args.self.now.parts c.args.units (root_node (tree_of d)) c.advanced.new.evaluation c.root.ensures.root
    (within_after d c.args.self.now.parts c.args.units c.args.share c.in-Ok.some c.args.self.now.evaluation c.advanced.new.evaluation c.in-Ok.ensures.yields)
