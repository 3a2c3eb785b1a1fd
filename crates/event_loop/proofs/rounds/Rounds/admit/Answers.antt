use Rattle.event_loop.proofs.Looping.{some_then}
use Rattle.event_loop.proofs.rounds.Rounds.admit.Goals as goal

pub returns-clause-lanes : goal.returns-clause-lanes
returns-clause-lanes g c = some_then c.steps_join.ensures _ _ _ c.displace.ensures.lanes c.take_in.ensures.lanes
