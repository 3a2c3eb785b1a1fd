use Rattle.std.proofs.Common.{None, refl, sym}
use Rattle.open_connections.proofs.Joined.{claim_is, released_joined}
use Rattle.open_connections.proofs.Steps.{stays_with, written}
use Rattle.open_connections.proofs.Woken.{others_woken}
use Rattle.open_connections.proofs.open.Open.release.Goals as goal

pub returns-clause-lanes : goal.returns-clause-lanes
returns-clause-lanes g c =
    let at = sym c.in-Some.ensures.value in
    stays_with g.C.LoopCore.steps g.S.Wire.told _ _ _ _ c.args.self.now.connections c.args.key c.in-Some.connection.now (record c.in-Some.connection.now { claim = None }) at (λ e. e) refl refl c.release.ensures.limits
    (released_joined c.args.self.now.connections _ c.args.key _ (written c.args.self.now.connections c.args.key c.in-Some.connection.now (record c.in-Some.connection.now { claim = None }) at) _ _ c.in-Some-claim.claim (claim_is c.args.self.now.connections c.args.key c.in-Some.connection.now _ at c.in-Some-claim.is) refl c.release.ensures.gone)

pub returns-clause-woken : goal.returns-clause-woken
returns-clause-woken g c = others_woken _ _ _ _ c.args.self.now.connections c.args.key c.in-Some.connection.now _ (sym c.in-Some.ensures.value) (refl, refl)
