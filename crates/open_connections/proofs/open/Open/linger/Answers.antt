use Rattle.open_connections.specs.Looping.{LetGo}
use Rattle.open_connections.specs.Woken.{sparing}
use Rattle.open_connections.proofs.Keeping.{keep_then, others_stand, others_then}
use Rattle.open_connections.proofs.Looping.{at_most_then, stays_then, step_then}
use Rattle.open_connections.proofs.Shares.{given_same, given_still}
use Rattle.open_connections.proofs.open.Open.linger.Goals as goal

pub returns : goal.returns
returns g c = record {
  lanes = at_most_then g.C.LoopCore.steps (LetGo c.args.key) _ _ _ c.end.ensures.lanes (stays_then _ _ _ c.grant.ensures.lanes c.give_turn.ensures.lanes);
  closes = λ o k. step_then g.C.LoopCore.steps (LetGo c.args.key) _ _ _ (c.end.ensures.closes o k) (stays_then _ _ _ c.grant.ensures.lanes c.give_turn.ensures.lanes);
  share = λ h. given_same _ _ _ (given_still _ _ _ (c.end.ensures.share h) c.grant.ensures.free) c.give_turn.ensures.budgets;
  others = others_then c.args.key _ _ _ c.end.ensures.others (others_stand c.args.key _ _ (keep_then _ _ _ _ c.grant.ensures.ready c.give_turn.ensures.ready));
  awake = c.give_turn.ensures.awake;
  woken = λ fact h. c.give_turn.ensures.woken fact (c.grant.ensures.woken (sparing c.args.key fact) (c.end.ensures.woken fact h));
}
