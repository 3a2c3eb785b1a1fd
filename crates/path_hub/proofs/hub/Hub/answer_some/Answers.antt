use Rattle.std.proofs.Common.{sym, subst}
use Rattle.path_hub.specs.HubState.{HubState}
use Rattle.path_hub.specs.UnderWay.{AreOnWay}
use Rattle.path_hub.proofs.hub.Hub.answer_some.Goals as goal

pub share_at-requires-clause-on_way : goal.share_at-requires-clause-on_way
share_at-requires-clause-on_way c = subst (λ (h : HubState). AreOnWay h.tenants c.args.tasks.now) (sym c.self.view_is) c.requires.on_way
