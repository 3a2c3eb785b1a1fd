use Rattle.memory_budget.proofs.Tickets.{asked, granted_so, released_so, shrunk_so, still}
use Rattle.memory_budget.proofs.laws.by_ticket.Goals as goal

pub returns-clause-asked : goal.returns-clause-asked
returns-clause-asked c = asked

pub returns-clause-released : goal.returns-clause-released
returns-clause-released c = released_so

pub returns-clause-shrunk : goal.returns-clause-shrunk
returns-clause-shrunk c = shrunk_so

pub returns-clause-granted : goal.returns-clause-granted
returns-clause-granted c = granted_so

pub returns-clause-still : goal.returns-clause-still
returns-clause-still c = still
