use Rattle.event_loop.proofs.rounds.Rounds.step.Goals as goal

pub returns-clause-lanes : goal.returns-clause-lanes
returns-clause-lanes g c = rw c.stay_deaf.ensures.opened c.go_round-done.ensures.lanes

pub returns-clause-on : goal.returns-clause-on
returns-clause-on g c = rw c.stay_deaf.ensures.opened c.go_round-done.ensures.on

pub returns-clause-turns : goal.returns-clause-turns
returns-clause-turns g c = rw c.stay_deaf.ensures.opened c.go_round-done.ensures.turns

pub returns-clause-woken : goal.returns-clause-woken
returns-clause-woken g c = rw c.stay_deaf.ensures.opened c.go_round-done.ensures.woken
