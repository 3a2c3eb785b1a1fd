use Rattle.std.proofs.Common.{◌∙◌, rules, sym}
use Rattle.open_connections.proofs.Joined.{held_joined, nobody_holds}
use Rattle.open_connections.proofs.Keeping.{alike, granted_alike, keep_at}
use Rattle.open_connections.proofs.Looping.{stays_in}
use Rattle.open_connections.proofs.Steps.{stays_with, written}
use Rattle.open_connections.proofs.Woken.{others_woken}
use Rattle.open_connections.proofs.open.Open.grant_next.Goals as goal

pub returns-in-Some-clause-lanes : goal.returns-in-Some-clause-lanes
returns-in-Some-clause-lanes g c =
    let at = sym c.in-Some.ensures.value in
    stays_with g.C.LoopCore.steps g.S.Wire.told _ _ _ _ c.args.self.now.connections _ c.in-Some.connection.now c.hold.new.self at (λ e. c.hold.ensures.due.1 ∙ e) c.hold.ensures.line c.hold.ensures.wire c.next.ensures.limits
    (held_joined c.args.self.now.connections _ c.in_ok-share.share c.args.now c.in-Some.connection.now c.hold.new.self _ _ at (written c.args.self.now.connections _ c.in-Some.connection.now c.hold.new.self at) c.hold.ensures.claim c.in_ok-share.ensures.granted)

pub returns-in_default-clause-lanes : goal.returns-in_default-clause-lanes
returns-in_default-clause-lanes g c = stays_in _ _ _ _ _ _ _ _ c.next.ensures.limits (λ j. absurd (nobody_holds c.args.self.now.connections c.in_ok-share.share _ _ (search rules) c.in_ok-share.ensures.granted j))

pub returns-in-Some-clause-ready : goal.returns-in-Some-clause-ready
returns-in-Some-clause-ready g c = keep_at _ c.args.self.now.connections _ c.in-Some.connection.now c.hold.new.self (sym c.in-Some.ensures.value) (alike c.hold.ensures.due.0 c.hold.ensures.phase c.hold.ensures.ready)

pub returns-in-Some-clause-woken : goal.returns-in-Some-clause-woken
returns-in-Some-clause-woken g c = others_woken _ _ _ _ c.args.self.now.connections _ c.in-Some.connection.now c.hold.new.self (sym c.in-Some.ensures.value) c.hold.ensures.due

pub returns-in-Some-clause-claims : goal.returns-in-Some-clause-claims
returns-in-Some-clause-claims g c =
    keep_at _ c.args.self.now.connections _ c.in-Some.connection.now c.hold.new.self (sym c.in-Some.ensures.value) (granted_alike c.in_ok-share.share.ticket c.args.now c.in-Some.connection.now.claim c.hold.new.self.claim c.hold.ensures.claim)
