use Rattle.std.proofs.Common.{◌≡◌, ◌<◌, ◌^◌, ℕ, Some, arith, rules, subst, sym}
use Rattle.std.specs.Prelude.{IsTrue}
use Rattle.slab.specs.Slab.{Updates}
use Rattle.open_connections.specs.Woken.{is_so_in}
use Rattle.open_connections.proofs.Woken.{reserved_woken, taken_woken}
use Rattle.open_connections.proofs.open.Open.take_in.Goals as goal

pub returns-clause-woken : goal.returns-clause-woken
returns-clause-woken g c = λ fact h.
    let was = c.args.self.now in
    let is = c.insert_reserved-self.new.self in
    let small : c.args.key < 2 ^ 32 = c.in-Some.ensures.small in
    let at : c.insert_reserved-self.result ≡ c.args.key = search rules in
    let u : Updates c.reserve.new.self is c.args.key (Some c.new-connection.result) = subst (λ (x : ℕ). Updates c.reserve.new.self is x (Some c.new-connection.result)) at c.insert_reserved-self.ensures.updates in
    subst (λ (b : ℕ). IsTrue (is_so_in fact b was.has_missed is was.due.first.items was.due.rest.items)) (sym c.max-self.ensures)
    (taken_woken was.bound c.saturating_add.result was.has_missed was.due.first.items was.due.rest.items c.reserve.new.self is c.args.key c.new-connection.result u
    (omega (arith, small, c.saturating_add.ensures)) small c.new-connection.ensures.quiet.0 c.new-connection.ensures.quiet.1 fact
    (reserved_woken was.bound was.has_missed was.due.first.items was.due.rest.items was.connections c.reserve.new.self c.reserve.ensures.rest_kept fact h))
