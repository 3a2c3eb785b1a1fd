use Rattle.std.proofs.Common.{rules, ◌≡◌, true, sym, ◌∙◌}
use Rattle.event_loop.proofs.Serving.{serves_one}
use Rattle.event_loop.proofs.Looping.{no_step_on, stays}
use Rattle.event_loop.proofs.rounds.Rounds.serve.Goals as goal

pub returns-clause-woken : goal.returns-clause-woken
returns-clause-woken g c = c.turns_pass.ensures.had c.args.due c.args.self.now.opened c.take_turn.new.self.opened c.take_turn.ensures.woken

pub returns-clause-serves : goal.returns-clause-serves
returns-clause-serves g c =
    let time : c.has_time.result ≡ true = search rules in
    let there : c.is_there.result ≡ true = search rules in
    serves_one g.C.LoopCore.steps g.S.Stream.Wire.told g.C.LoopCore.waits g.C.LoopCore.longs c.args.due c.args.self.now.opened c.take_turn.new.self.opened
    (sym c.has_time.ensures ∙ time) (sym c.is_there.ensures ∙ there) c.take_turn.ensures.takes

pub returns-then-not-is_there-clause-lanes : goal.returns-then-not-is_there-clause-lanes
returns-then-not-is_there-clause-lanes g c = no_step_on g.C.LoopCore.steps _ _ (stays _)
