use Rattle.std.proofs.Common.{◌≡◌, Some, Err, sym, ap}
use Rattle.path_hub.specs.Sessions.{session}
use Rattle.path_hub.specs.HubState.{state}
use Rattle.path_hub.proofs.Calls.{kept, not_closed}
use Rattle.path_hub.proofs.hub.take_at.Goals as goal

pub returns-in-Err-Closed : goal.returns-in-Err-Closed
returns-in-Err-Closed c =
    let h : session c.args.conn c.args.sessions.now.entries ≡ Some c.in-Some.framer.now = sym c.in-Some.ensures.value in
    let k = kept c.args.conn c.args.sessions.now.entries (c.get_mut.follows.lender c.accept.new.self).entries c.in-Some.framer.now c.accept.new.self h c.in-Err-Closed.ensures.unchanged (c.get_mut.follows.holds c.accept.new.self).0 in
    λ tenants. (record { framing = c.in-Some.framer.now; was = h; closed = c.in-Err-Closed.ensures.closed.0 (ap (λ e. Err e) c.in-Err-Closed.field-0-is) }, ap (λ ss. state ss tenants) k)

pub returns-in-Err-Memory : goal.returns-in-Err-Memory
returns-in-Err-Memory c =
    let h : session c.args.conn c.args.sessions.now.entries ≡ Some c.in-Some.framer.now = sym c.in-Some.ensures.value in
    let k = kept c.args.conn c.args.sessions.now.entries (c.get_mut.follows.lender c.accept.new.self).entries c.in-Some.framer.now c.accept.new.self h c.in-Err-Memory.ensures.unchanged (c.get_mut.follows.holds c.accept.new.self).0 in
    λ tenants. (record { framing = c.in-Some.framer.now; was = h; open' = not_closed c.in-Some.framer.now.closed (λ e. let bad = c.in-Err-Memory.ensures.closed.1 e in absurd (cc)); some = c.in-Err-Memory.ensures.grown (ap (λ e. Err e) c.in-Err-Memory.field-0-is) }, ap (λ ss. state ss tenants) k)
