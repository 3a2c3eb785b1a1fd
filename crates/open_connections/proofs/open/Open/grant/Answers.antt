use Rattle.std.proofs.Common.{refl, ◌∙◌}
use Rattle.open_connections.proofs.Keeping.{keep_same, keep_then}
use Rattle.open_connections.proofs.Looping.{stays_in, stays_then}
use Rattle.open_connections.proofs.Shares.{free_then}
use Rattle.open_connections.proofs.Woken.{spared}
use Rattle.open_connections.proofs.open.Open.grant.Goals as goal

pub shares-init : goal.shares-init
shares-init g c = record { lanes = stays_in _ _ _ _ _ _ _ _ refl (λ j. j); free = λ pool q t h. h; ready = keep_same _ _; claims = keep_same _ _; core = refl; longs = refl; woken = λ fact h. h }

pub shares-preserved : goal.shares-preserved
shares-preserved g c = record {
  lanes = stays_then _ _ _ c.shares.invariant.lanes (stays_then _ _ _ c.grant_next.ensures.lanes c.add_turn.ensures.lanes);
  free = free_then _ _ _ _ c.shares.invariant.free c.grant_next.ensures.free c.add_turn.ensures.budgets;
  ready = keep_then _ _ _ _ c.shares.invariant.ready (keep_then _ _ _ _ c.grant_next.ensures.ready c.add_turn.ensures.ready);
  claims = keep_then _ _ _ _ c.shares.invariant.claims (keep_then _ _ _ _ c.grant_next.ensures.claims c.add_turn.ensures.claims);
  core = c.add_turn.ensures.core ∙ c.grant_next.ensures.core ∙ c.shares.invariant.core;
  longs = c.add_turn.ensures.longs ∙ c.grant_next.ensures.longs ∙ c.shares.invariant.longs;
  woken = λ fact h. c.add_turn.ensures.woken fact (c.in-Some.ensures.woken fact (spared _ _ _ _ c.shares.self.connections c.in-Some.key fact (c.shares.invariant.woken fact h)));
}
