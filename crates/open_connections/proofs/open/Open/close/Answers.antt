use Rattle.open_connections.specs.Looping.{LetGo}
use Rattle.open_connections.proofs.Keeping.{others_stand, others_then}
use Rattle.open_connections.proofs.Looping.{at_most_then, step_then}
use Rattle.open_connections.proofs.Shares.{given_still}
use Rattle.open_connections.proofs.open.Open.close.Goals as goal

pub returns : goal.returns
returns g c = record {
  lanes = at_most_then g.C.LoopCore.steps (LetGo c.args.key) _ _ _ c.let_go.ensures.lanes c.grant.ensures.lanes;
  closes = λ o k. step_then g.C.LoopCore.steps (LetGo c.args.key) _ _ _ (c.let_go.ensures.closes o k) c.grant.ensures.lanes;
  others = others_then c.args.key _ _ _ c.let_go.ensures.others (others_stand c.args.key _ _ c.grant.ensures.ready);
  woken = λ fact h. c.grant.ensures.woken fact (c.let_go.ensures.woken fact h);
  share = λ h. given_still _ _ _ (c.let_go.ensures.share h) c.grant.ensures.free;
}
