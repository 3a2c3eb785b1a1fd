use Rattle.open_connections.proofs.Joined.{in_strangers, in_tenants}
use Rattle.open_connections.proofs.Shares.{released, released_in}
use Rattle.open_connections.proofs.budgets.Budgets.release.Goals as goal

pub returns-in-Tenants-clause-free : goal.returns-in-Tenants-clause-free
returns-in-Tenants-clause-free c = rw c.in-Tenants.is (released c.keeps.ensures.gone _ _ _ _ c.release.ensures)

pub returns-in-Strangers-clause-free : goal.returns-in-Strangers-clause-free
returns-in-Strangers-clause-free c = rw c.in-Strangers.is (released c.keeps.ensures.gone _ _ _ _ c.release-in-Strangers.ensures)

pub returns-in-Tenants-clause-gone : goal.returns-in-Tenants-clause-gone
returns-in-Tenants-clause-gone c = rw c.in-Tenants.is (in_tenants _ _ _ c.args.self.now _ (released_in c.by_ticket.ensures.released c.keeps.ensures.limits _ _ _ _ c.release.ensures))

pub returns-in-Strangers-clause-gone : goal.returns-in-Strangers-clause-gone
returns-in-Strangers-clause-gone c = rw c.in-Strangers.is (in_strangers _ _ _ c.args.self.now _ (released_in c.by_ticket.ensures.released c.keeps.ensures.limits _ _ _ _ c.release-in-Strangers.ensures))
