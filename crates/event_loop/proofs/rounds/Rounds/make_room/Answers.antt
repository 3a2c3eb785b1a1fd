use Rattle.event_loop.proofs.Looping.{no_step, some_then}
use Rattle.event_loop.proofs.rounds.Rounds.make_room.Goals as goal

pub returns-clause-lanes : goal.returns-clause-lanes
returns-clause-lanes g c = some_then c.steps_join.ensures _ _ _ (no_step g.C.LoopCore.steps _ _ c.instead_of-place.ensures.lanes) c.displace.ensures.lanes
