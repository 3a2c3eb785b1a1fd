use Rattle.event_loop.proofs.Looping.{taken_some}
use Rattle.event_loop.proofs.rounds.Rounds.open.Goals as goal

pub returns-clause-lanes : goal.returns-clause-lanes
returns-clause-lanes g c = taken_some g.C.LoopCore.steps c.args.key _ _ _ c.take_in-is_taken.ensures.lanes
