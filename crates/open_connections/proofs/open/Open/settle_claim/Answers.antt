use Rattle.std.proofs.Common.{ℕ, Some, ap, refl, sym, ◌∙◌}
use Rattle.connection_turns.specs.declared.claim.Purpose.TheVariants.{Written}
use Rattle.open_connections.specs.Joined.{claimed_by, place_of, shares_at}
use Rattle.open_connections.specs.Woken.{sparing}
use Rattle.open_connections.proofs.Joined.{changed_joined, claim_is, granted_if, shrunk}
use Rattle.open_connections.proofs.Keeping.{keep_at, keep_then}
use Rattle.open_connections.proofs.Looping.{stays_then}
use Rattle.open_connections.proofs.Steps.{stays_at, stays_with, written}
use Rattle.open_connections.proofs.Woken.{others_woken}
use Rattle.open_connections.proofs.open.Open.settle_claim.Goals as goal

pub returns-in-Written-clause-lanes : goal.returns-in-Written-clause-lanes
returns-in-Written-clause-lanes g c =
    let at = (sym c.in-Some.ensures.value) in
    let claim = c.in-Some-claim.claim in
    let old = c.args.self.now.budgets in
    stays_then _ _ _ (stays_with g.C.LoopCore.steps g.S.Wire.told _ _ _ _ c.args.self.now.connections c.args.key c.in-Some.connection.now (record c.in-Some.connection.now { claim = Some (record c.in-Some-claim.claim { purpose = Written; bytes = c.min.result }) }) at (λ e. e) refl refl c.shrink.ensures.limits
    (changed_joined c.args.self.now.connections _ c.args.key _ (written c.args.self.now.connections c.args.key c.in-Some.connection.now (record c.in-Some.connection.now { claim = Some (record c.in-Some-claim.claim { purpose = Written; bytes = c.min.result }) }) at) _ _ claim (record claim { purpose = Written; bytes = c.min.result }) _ (claim_is c.args.self.now.connections c.args.key c.in-Some.connection.now _ at c.in-Some-claim.is) refl refl c.shrink.ensures.lowered
    (λ has. shrunk c.args.key _ claim (shares_at (place_of claim) old) (granted_if claim.is_granted _ (sym c.left.ensures ∙ c.in-Written.is)) has ∙ ap (λ (n : ℕ). claimed_by c.args.key (record claim { purpose = Written; bytes = n })) (sym c.min.ensures))))
    c.grant.ensures.lanes

pub returns-in-Written-clause-ready : goal.returns-in-Written-clause-ready
returns-in-Written-clause-ready g c = keep_then _ _ _ _ (keep_at _ c.args.self.now.connections c.args.key c.in-Some.connection.now _ (sym c.in-Some.ensures.value) refl) c.grant.ensures.ready

pub returns-in-Written-clause-woken : goal.returns-in-Written-clause-woken
returns-in-Written-clause-woken g c = λ fact h. c.grant.ensures.woken (sparing c.args.key fact) (others_woken _ _ _ _ c.args.self.now.connections c.args.key c.in-Some.connection.now _ (sym c.in-Some.ensures.value) (refl, refl) fact h)

pub returns-in-Released-clause-lanes : goal.returns-in-Released-clause-lanes
returns-in-Released-clause-lanes g c = stays_then _ _ _ (stays_at g.C.LoopCore.steps g.S.Wire.told _ _ _ c.args.self.now.connections c.args.key c.in-Some.connection.now c.in-Some.connection.now (sym c.in-Some.ensures.value) (λ e. e) refl refl refl) c.yield_share.ensures.lanes

pub returns-in-Released-clause-ready : goal.returns-in-Released-clause-ready
returns-in-Released-clause-ready g c = keep_then _ _ _ _ (keep_at _ c.args.self.now.connections c.args.key c.in-Some.connection.now c.in-Some.connection.now (sym c.in-Some.ensures.value) refl) c.yield_share.ensures.ready
