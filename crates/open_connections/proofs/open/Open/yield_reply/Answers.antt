use Rattle.std.proofs.Common.{◌∙◌, sym}
use Rattle.open_connections.proofs.Joined.{renewed_alike}
use Rattle.open_connections.proofs.Keeping.{alike, keep_at}
use Rattle.open_connections.proofs.Steps.{stays_at}
use Rattle.open_connections.proofs.open.Open.yield_reply.Goals as goal

pub returns-in-Some-clause-ready : goal.returns-in-Some-clause-ready
returns-in-Some-clause-ready g c = keep_at _ c.args.self.now.connections c.args.key c.in-Some.connection.now _ (sym c.in-Some.ensures.value) (alike c.renew.ensures.due.0 c.renew.ensures.phase c.renew.ensures.ready)

pub returns-in-Some-clause-lanes : goal.returns-in-Some-clause-lanes
returns-in-Some-clause-lanes g c = stays_at g.C.LoopCore.steps g.S.Wire.told _ _ _ c.args.self.now.connections c.args.key c.in-Some.connection.now c.renew.new.self (sym c.in-Some.ensures.value) (λ e. c.renew.ensures.due.1 ∙ e) c.renew.ensures.line c.renew.ensures.wire (renewed_alike c.args.now c.in-Some.connection.now.claim c.renew.new.self.claim c.renew.ensures.claim)
