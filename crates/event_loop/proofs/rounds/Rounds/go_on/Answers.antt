use Rattle.std.proofs.Common.{◌∙◌, inl, inr}
use Rattle.open_connections.specs.Looping.{LetGo}
use Rattle.event_loop.proofs.Looping.{then_at_most}
use Rattle.open_connections.specs.Woken.{sparing}
use Rattle.event_loop.proofs.rounds.Rounds.go_on.Goals as goal

pub returns-in-Ok-clause-lanes : goal.returns-in-Ok-clause-lanes
returns-in-Ok-clause-lanes g c = inr (c.steps_join.ensures.twice _ _ _ c.tell_slow.ensures.lanes c.settle.ensures.lanes)

pub returns-in-Err-clause-lanes : goal.returns-in-Err-clause-lanes
returns-in-Err-clause-lanes g c = then_at_most c.steps_join.ensures (LetGo c.args.key) _ _ _ (c.steps_join.ensures.twice _ _ _ c.tell_slow.ensures.lanes c.settle.ensures.lanes) c.finish.ensures.lanes

pub returns-in-Ok-clause-woken : goal.returns-in-Ok-clause-woken
returns-in-Ok-clause-woken g c = λ fact h. c.in-Ok.ensures.woken fact (c.tell_slow.ensures.woken (sparing c.args.key fact) h)

pub returns-in-Err-clause-woken : goal.returns-in-Err-clause-woken
returns-in-Err-clause-woken g c = λ fact h. c.finish.ensures.woken fact (c.settle.ensures.others fact (c.tell_slow.ensures.woken (sparing c.args.key fact) h))

pub returns-in-Ok-clause-others : goal.returns-in-Ok-clause-others
returns-in-Ok-clause-others g c = c.states_join.ensures.others c.args.key _ _ (c.states_join.ensures.twice c.args.self.now.opened c.tell_slow.new.self.opened c.settle.new.self c.tell_slow.ensures.ready c.settle.ensures.ready)

pub returns-in-Ok-clause-follows : goal.returns-in-Ok-clause-follows
returns-in-Ok-clause-follows g c = λ o k. inr (c.steps_join.ensures.twice _ _ _ c.tell_slow.ensures.lanes c.settle.ensures.lanes, c.states_join.ensures.twice c.args.self.now.opened c.tell_slow.new.self.opened c.settle.new.self c.tell_slow.ensures.ready c.settle.ensures.ready, λ d. c.in-Ok.ensures.works d ∙ c.tell_slow.ensures.core)

pub returns-in-Err-clause-others : goal.returns-in-Err-clause-others
returns-in-Err-clause-others g c = c.states_join.ensures.apart c.args.key _ _ _ (c.states_join.ensures.others c.args.key _ _ (c.states_join.ensures.twice c.args.self.now.opened c.tell_slow.new.self.opened c.settle.new.self c.tell_slow.ensures.ready c.settle.ensures.ready)) c.finish.ensures.others

pub returns-in-Err-clause-follows : goal.returns-in-Err-clause-follows
returns-in-Err-clause-follows g c = λ o k. inl (c.steps_join.ensures.before (LetGo c.args.key) _ _ _ (c.steps_join.ensures.twice _ _ _ c.tell_slow.ensures.lanes c.settle.ensures.lanes)
    (c.finish.ensures.closes (c.states_join.ensures.there c.args.key c.args.self.now.opened c.settle.new.self (c.states_join.ensures.twice c.args.self.now.opened c.tell_slow.new.self.opened c.settle.new.self c.tell_slow.ensures.ready c.settle.ensures.ready) ∙ o) k))
