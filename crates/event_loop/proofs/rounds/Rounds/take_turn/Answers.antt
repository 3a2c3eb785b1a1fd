use Rattle.std.proofs.Common.{◌∙◌}
use Rattle.event_loop.proofs.Looping.{gone_on, on_then, turn_on}
use Rattle.event_loop.proofs.Serving.{follows_then}
use Rattle.event_loop.proofs.rounds.Rounds.take_turn.Goals as goal

pub returns-clause-lanes : goal.returns-clause-lanes
returns-clause-lanes g c = on_then c.steps_join.ensures _ _ _ (turn_on g.C.LoopCore.steps c.args.key _ _ c.turn-outcome.ensures.lanes) (gone_on g.C.LoopCore.steps c.args.key _ _ c.follow.ensures.lanes)

pub returns-clause-takes : goal.returns-clause-takes
returns-clause-takes g c = λ o k. let t = c.turn-outcome.ensures.gets k in record {
  turned = t.0;
  result = c.turn-outcome.result;
  turn = t.1;
  follows = follows_then c.steps_join.ensures c.states_join.ensures g.S.Stream.Wire.told c.args.key _ _ _ _ t.2 t.3 t.4 (c.follow.ensures.follows (c.turn-outcome.ensures.there ∙ o) k);
  others = c.states_join.ensures.apart c.args.key _ _ _ c.turn-outcome.ensures.others c.follow.ensures.others;
}
