use Rattle.event_loop.proofs.Looping.{no_step, some_then}
use Rattle.event_loop.proofs.rounds.Rounds.take_in.Goals as goal

pub returns-clause-lanes : goal.returns-clause-lanes
returns-clause-lanes g c = some_then c.steps_join.ensures _ _ _ (no_step g.C.LoopCore.steps _ _ c.vacant.ensures.lanes) c.open.ensures.lanes
