use Rattle.hub_core.proofs.hub_core.HubCore.give_up.Goals as goal

pub invariant_of-self : goal.invariant_of-self
invariant_of-self c = c.abandon.ensures.on_way c.self.inside.hub.tenants c.self.invariant
