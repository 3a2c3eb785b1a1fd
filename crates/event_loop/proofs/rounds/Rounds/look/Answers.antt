use Rattle.event_loop.proofs.Looping.{no_step_on, on_then, stays}
use Rattle.event_loop.proofs.rounds.Rounds.look.Goals as goal

pub returns-clause-lanes : goal.returns-clause-lanes
returns-clause-lanes g c = on_then c.steps_join.ensures _ _ _ c.tick.ensures.lanes (no_step_on g.C.LoopCore.steps _ _ c.tell_journal.ensures.lanes)

pub returns-then-not-is_later-clause-lanes : goal.returns-then-not-is_later-clause-lanes
returns-then-not-is_later-clause-lanes g c = no_step_on g.C.LoopCore.steps _ _ (stays _)
