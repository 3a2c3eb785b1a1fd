use Rattle.std.proofs.Common.{◌∙◌, refl, sym}
use Rattle.open_connections.proofs.Joined.{renewed_alike}
use Rattle.open_connections.proofs.Steps.{stays_at}
use Rattle.open_connections.proofs.open.Open.renew.Goals as goal

pub returns-then-connection-clause-lanes : goal.returns-then-connection-clause-lanes
returns-then-connection-clause-lanes g c = stays_at g.C.LoopCore.steps g.S.Wire.told _ _ _ c.args.self.now.connections c.args.key c.in-Some.connection.now c.renew.new.self (sym c.in-Some.ensures.value) (λ e. c.renew.ensures.due.1 ∙ e) c.renew.ensures.line c.renew.ensures.wire (renewed_alike c.args.now c.in-Some.connection.now.claim c.renew.new.self.claim c.renew.ensures.claim)

pub returns-else-connection-clause-lanes : goal.returns-else-connection-clause-lanes
returns-else-connection-clause-lanes g c = stays_at g.C.LoopCore.steps g.S.Wire.told _ _ _ c.args.self.now.connections c.args.key c.in-Some.connection.now c.in-Some.connection.now (sym c.in-Some.ensures.value) (λ e. e) refl refl refl
