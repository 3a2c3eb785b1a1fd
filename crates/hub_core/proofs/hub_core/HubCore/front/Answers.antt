use Rattle.hub_core.proofs.Waiting.{told_ahead}
use Rattle.hub_core.proofs.hub_core.HubCore.front.Goals as goal

pub returns-clause-ahead : goal.returns-clause-ahead
returns-clause-ahead c =
    rw (← c.self.view_is) (told_ahead c.args.conn c.self.inside.hub c.tenants-tenants.result.now c.waiting_bytes-bytes.result.now _ _ _ _ _ c.tenants-tenants.ensures c.waiting_bytes-bytes.ensures c.part_of.ensures c.front_of.ensures
    c.weigh-most_reply.ensures.least c.weigh-most_reply.ensures.most c.weigh-most_reply.ensures.long)
