use Rattle.event_loop.proofs.Looping.{joined_kept, limits_kept}
use Rattle.event_loop.proofs.server.Server.step.Goals as goal

pub returns-clause-limits : goal.returns-clause-limits
returns-clause-limits g c = limits_kept g.C.LoopCore.steps _ _ c.round-done.ensures.steps

pub returns-clause-joined : goal.returns-clause-joined
returns-clause-joined g c = joined_kept g.C.LoopCore.steps _ _ c.round-done.ensures.steps
