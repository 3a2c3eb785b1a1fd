use Rattle.event_loop.proofs.Looping.{no_step}
use Rattle.event_loop.proofs.rounds.Rounds.accept.Goals as goal

pub returns-then-not-self-clause-lanes : goal.returns-then-not-self-clause-lanes
returns-then-not-self-clause-lanes g c = no_step g.C.LoopCore.steps _ _ c.turn_away.ensures.lanes
