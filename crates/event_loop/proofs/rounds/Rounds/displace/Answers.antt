use Rattle.open_connections.specs.Looping.{LetGo}
use Rattle.event_loop.proofs.Looping.{at_most_some, no_step, stays}
use Rattle.event_loop.proofs.rounds.Rounds.displace.Goals as goal

pub returns-in-Idle-clause-lanes : goal.returns-in-Idle-clause-lanes
returns-in-Idle-clause-lanes g c = at_most_some g.C.LoopCore.steps (LetGo c.in-Idle.key) _ _ c.finish.ensures.lanes

pub returns-in-Free-clause-lanes : goal.returns-in-Free-clause-lanes
returns-in-Free-clause-lanes g c = no_step g.C.LoopCore.steps _ _ (stays _)

pub returns-in-Idle-clause-woken : goal.returns-in-Idle-clause-woken
returns-in-Idle-clause-woken g c = c.turns_pass.ensures.woken c.in-Idle.key c.args.self.now.opened c.finish.new.self.opened c.finish.ensures.woken
