use Rattle.std.proofs.lemmas.Result.{on_err_weaker, on_ok_weaker}
use Rattle.path_hub.proofs.Feeding.{connects, connects_some}
use Rattle.path_hub.proofs.hub.Hub.apply.Goals as goal

pub returns-in-Connect-clause-ok : goal.returns-in-Connect-clause-ok
returns-in-Connect-clause-ok c = on_ok_weaker c.open.result (connects c.splits_from_the_front.ensures c.args.event.now c.in-Connect.conn c.self.inside.sessions.entries c.open.new.sessions.entries c.self.inside.tenants c.args.out.now.items c.args.self.now c.in-Connect.is c.self.view_is) c.open.ensures.ok

pub returns-in-Connect-clause-some : goal.returns-in-Connect-clause-some
returns-in-Connect-clause-some c = on_err_weaker c.open.result (connects_some c.args.event.now c.in-Connect.conn c.self.inside.sessions.entries c.self.inside.tenants c.args.out.now.items c.args.self.now c.in-Connect.is c.self.view_is) c.open.ensures.free
