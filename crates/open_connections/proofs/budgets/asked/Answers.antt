use Rattle.open_connections.proofs.Shares.{asked_within}
use Rattle.open_connections.proofs.budgets.asked.Goals as goal

pub returns-clause-limit : goal.returns-clause-limit
returns-clause-limit c = asked_within c.keeps.ensures.limits _ _ _ _ _ _ c.ask.ensures.after c.ask.ensures.unchanged
