use Rattle.std.proofs.Common.{sym, subst}
use Rattle.path_hub.specs.UnderWay.{AreOnWay}
use Rattle.hub_core.proofs.Taking.{taken_keeps}
use Rattle.hub_core.proofs.Waiting.{takes_tenants}
use Rattle.hub_core.proofs.hub_core.HubCore.take.Goals as goal

pub invariant_of-self : goal.invariant_of-self
invariant_of-self c = subst (λ t. AreOnWay t c.self.inside.tasks) (sym (takes_tenants c.args.conn c.args.piece.now c.self.inside.hub c.take.new.self c.take.result c.take.ensures)) c.self.invariant

pub returns-clause-keeps : goal.returns-clause-keeps
returns-clause-keeps c = rw (← c.self.view_is) (taken_keeps c.splits_from_the_front.ensures c.args.conn c.args.piece.now c.self.inside.hub c.take.new.self c.self.inside.tasks c.take.result c.take.ensures)
