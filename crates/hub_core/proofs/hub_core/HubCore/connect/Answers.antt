use Rattle.std.proofs.Common.{sym, subst}
use Rattle.path_hub.specs.UnderWay.{AreOnWay}
use Rattle.hub_core.proofs.hub_core.HubCore.connect.Goals as goal

pub invariant_of-self : goal.invariant_of-self
invariant_of-self c = subst (λ t. AreOnWay t c.self.inside.tasks) (sym c.connect.ensures.tenants) c.self.invariant
