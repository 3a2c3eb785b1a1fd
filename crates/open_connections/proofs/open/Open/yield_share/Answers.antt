use Rattle.std.proofs.Common.{◌∙◌}
use Rattle.open_connections.specs.Woken.{sparing}
use Rattle.open_connections.proofs.Keeping.{keep_then}
use Rattle.open_connections.proofs.Looping.{stays_then}
use Rattle.open_connections.proofs.Shares.{given_still}
use Rattle.open_connections.proofs.open.Open.yield_share.Goals as goal

pub returns : goal.returns
returns g c = record {
  lanes = stays_then _ _ _ c.release.ensures.lanes c.grant.ensures.lanes;
  ready = keep_then _ _ _ _ c.release.ensures.ready c.grant.ensures.ready;
  given = given_still _ _ _ c.release.ensures.given c.grant.ensures.free;
  core = c.grant.ensures.core ∙ c.release.ensures.core;
  longs = c.grant.ensures.longs ∙ c.release.ensures.longs;
  woken = λ fact h. c.grant.ensures.woken (sparing c.args.key fact) (c.release.ensures.woken fact h);
}
