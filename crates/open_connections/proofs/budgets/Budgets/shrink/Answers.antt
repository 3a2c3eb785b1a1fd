use Rattle.open_connections.proofs.Joined.{in_strangers, in_tenants}
use Rattle.open_connections.proofs.Shares.{shrunk_in}
use Rattle.open_connections.proofs.budgets.Budgets.shrink.Goals as goal

pub returns-in-Tenants-clause-lowered : goal.returns-in-Tenants-clause-lowered
returns-in-Tenants-clause-lowered c = rw c.in-Tenants.is (in_tenants _ _ _ c.args.self.now _ (shrunk_in c.by_ticket.ensures.shrunk c.keeps.ensures.limits _ _ _ _ _ c.shrink.ensures))

pub returns-in-Strangers-clause-lowered : goal.returns-in-Strangers-clause-lowered
returns-in-Strangers-clause-lowered c = rw c.in-Strangers.is (in_strangers _ _ _ c.args.self.now _ (shrunk_in c.by_ticket.ensures.shrunk c.keeps.ensures.limits _ _ _ _ _ c.shrink-in-Strangers.ensures))
