use Rattle.std.proofs.Common.{◌∙◌, ap, subst, sym, Option}
use Rattle.std.specs.Prelude.{IsTrue, is_some}
use Rattle.slab.specs.Slab.{get}
use Rattle.connection_turns.specs.declared.claim.Claim.{Claim}
use Rattle.open_connections.specs.Turns.{is_held_in, is_queued_in}
use Rattle.open_connections.specs.Shares.{claim_at}
use Rattle.open_connections.proofs.Keeping.{claims_at, held_covers, queued_so, some_map, some_still}
use Rattle.open_connections.proofs.open.Open.claim.Goals as goal

pub returns-clause-queued : goal.returns-clause-queued
returns-clause-queued g c = λ f. some_map _ _ (get c.args.self.now.connections c.args.key) (λ h. queued_so (get c.grant.new.self.connections c.args.key) (some_still (get c.ask_for.new.self.connections c.args.key) (get c.grant.new.self.connections c.args.key) (c.grant.ensures.claims.at c.args.key) h)
    (subst (λ (x : Option Claim). IsTrue (is_some x) → IsTrue (is_queued_in x)) c.claim_of.ensures (c.is_held.ensures.queued f))) c.in_ok-ask_for.ensures.claims

pub returns-clause-covered : goal.returns-clause-covered
returns-clause-covered g c = λ f j r.
    held_covers (claim_at c.grant.new.self.connections c.args.key) (claim_at c.ask_for.new.self.connections c.args.key) _ (claims_at (get c.ask_for.new.self.connections c.args.key) (get c.grant.new.self.connections c.args.key) (c.grant.ensures.claims.at c.args.key))
    (ap (λ (x : Option Claim). is_held_in x) (sym c.claim_of.ensures) ∙ sym c.is_held.ensures.held ∙ f) (c.in_ok-ask_for.ensures.covers j r)
