use Rattle.std.proofs.Common.{sym, ◌∙◌}
use Rattle.event_loop.proofs.Looping.{no_step, some_then}
use Rattle.event_loop.proofs.rounds.Rounds.accept_next.Goals as goal

pub returns-clause-lanes : goal.returns-clause-lanes
returns-clause-lanes g c = some_then c.steps_join.ensures _ _ _ (no_step g.C.LoopCore.steps _ _ c.place-place.ensures.lanes) c.accept_one.ensures.lanes

pub returns-then-not-may_come-clause-tried : goal.returns-then-not-may_come-clause-tried
returns-then-not-may_come-clause-tried g c = λ asked room. sym c.if-not-may_come.true ∙ (c.may_accept-may_come.ensures ∙ asked)
