use Rattle.json_tape.proofs.KeptOrders.{none_found, order_found}
use Rattle.json_tape.proofs.document.Document.run.Goals as goal

pub returns-in-None-clause-order : goal.returns-in-None-clause-order
returns-in-None-clause-order c = none_found _ c.args.self.now c.self.view_is _ c.self.invariant.1 c.args.n.0 c.requires c.in-None.ensures

pub returns-in-Some-clause-order : goal.returns-in-Some-clause-order
returns-in-Some-clause-order c = order_found _ c.args.self.now c.self.view_is _ c.self.invariant.1 c.args.n.0 c.factor.result c.in-Some.words.now c.factor.ensures c.in-Some.ensures
