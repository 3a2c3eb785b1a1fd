use Rattle.std.proofs.Common.{Some, ap, refl, sym}
use Rattle.std.specs.Prelude.{is_some}
use Rattle.std.specs.Option.{option_map}
use Rattle.open_connections.specs.Opened.{bytes_of}
use Rattle.open_connections.proofs.Joined.{asked_joined, if_claim, now_at}
use Rattle.open_connections.proofs.Keeping.{asked_covers, keep_at, keep_then}
use Rattle.open_connections.proofs.Looping.{stays_then}
use Rattle.open_connections.proofs.Steps.{stays_at, stays_with, written}
use Rattle.open_connections.proofs.Turns.{at_any}
use Rattle.open_connections.proofs.Woken.{others_woken}
use Rattle.open_connections.proofs.open.Open.ask_for.Goals as goal

pub returns-clause-lanes : goal.returns-clause-lanes
returns-clause-lanes g c =
    let at = (sym c.in-Some.ensures.value) in
    stays_then _ _ _ c.release.ensures.lanes (stays_with g.C.LoopCore.steps g.S.Wire.told _ _ _ _ c.release.new.self.connections c.args.key c.in-Some.connection.now (record c.in-Some.connection.now { claim = Some c.in_ok-claim.claim }) at (λ e. e) refl refl c.ask.ensures.limits
    (asked_joined c.release.new.self.connections _ c.args.key _ (written c.release.new.self.connections c.args.key c.in-Some.connection.now (record c.in-Some.connection.now { claim = Some c.in_ok-claim.claim }) at) _ _ c.in_ok-claim.claim c.release.ensures.none refl c.in_ok-claim.ensures.comes))

pub returns-clause-ready : goal.returns-clause-ready
returns-clause-ready g c = keep_then _ _ _ _ c.release.ensures.ready (keep_at _ c.release.new.self.connections c.args.key c.in-Some.connection.now _ (sym c.in-Some.ensures.value) refl)

pub returns-clause-woken : goal.returns-clause-woken
returns-clause-woken g c = λ fact h. others_woken _ _ _ _ c.release.new.self.connections c.args.key c.in-Some.connection.now _ (sym c.in-Some.ensures.value) (refl, refl) fact (c.release.ensures.woken fact h)

pub returns-clause-claims : goal.returns-clause-claims
returns-clause-claims g c =
    at_any _ _ (ap (λ x. option_map (λ c. is_some c.claim) x) (written c.release.new.self.connections c.args.key c.in-Some.connection.now (record c.in-Some.connection.now { claim = Some c.in_ok-claim.claim }) (sym c.in-Some.ensures.value)).changed)

pub returns-in_err-claim-clause-lanes : goal.returns-in_err-claim-clause-lanes
returns-in_err-claim-clause-lanes g c =
    let o = c.release.new.self in
    stays_then _ _ _ c.release.ensures.lanes (rw c.in_err-claim.ensures.unchanged (stays_at g.C.LoopCore.steps g.S.Wire.told o.budgets (bytes_of o) o.core c.release.new.self.connections c.args.key c.in-Some.connection.now c.in-Some.connection.now (sym c.in-Some.ensures.value) (λ e. e) refl refl refl))

pub returns-in_err-claim-clause-ready : goal.returns-in_err-claim-clause-ready
returns-in_err-claim-clause-ready g c = keep_then _ _ _ _ c.release.ensures.ready (keep_at _ c.release.new.self.connections c.args.key c.in-Some.connection.now c.in-Some.connection.now (sym c.in-Some.ensures.value) refl)

pub returns-in_err-claim-clause-woken : goal.returns-in_err-claim-clause-woken
returns-in_err-claim-clause-woken g c = λ fact h. others_woken _ _ _ _ c.release.new.self.connections c.args.key c.in-Some.connection.now c.in-Some.connection.now (sym c.in-Some.ensures.value) (refl, refl) fact (c.release.ensures.woken fact h)

pub returns-clause-covers : goal.returns-clause-covers
returns-clause-covers g c = λ j r.
    let o = c.release.new.self in
    let was = c.release.ensures.lanes.joined j in
    if_claim _ c.in_ok-claim.claim _ (now_at c.release.new.self.connections _ c.args.key _ (written c.release.new.self.connections c.args.key c.in-Some.connection.now (record c.in-Some.connection.now { claim = Some c.in_ok-claim.claim }) (sym c.in-Some.ensures.value)) (Some c.in_ok-claim.claim) refl)
    (asked_covers c.args.need.now c.args.now o.budgets c.in_ok-claim.claim was.most r c.in_ok-claim.ensures.claim)
