use Rattle.event_loop.proofs.Looping.{no_step, stays}
use Rattle.event_loop.proofs.rounds.Rounds.accept_one.Goals as goal

pub returns-in-Blocked-clause-lanes : goal.returns-in-Blocked-clause-lanes
returns-in-Blocked-clause-lanes g c = no_step g.C.LoopCore.steps _ _ (stays _)

pub returns-in-Aborted-clause-lanes : goal.returns-in-Aborted-clause-lanes
returns-in-Aborted-clause-lanes g c = no_step g.C.LoopCore.steps _ _ (stays _)
