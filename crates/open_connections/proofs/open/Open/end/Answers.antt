use Rattle.std.proofs.Common.{Option, ap, rules, refl, sym, inl, inr, ◌∙◌}
use Rattle.std.specs.Option.{option_map}
use Rattle.slab.specs.Slab.{with_value}
use Rattle.connection_turns.specs.declared.claim.Claim.{Claim}
use Rattle.open_connections.specs.Looping.{LetGo}
use Rattle.open_connections.specs.Opened.{bytes_of}
use Rattle.open_connections.proofs.Joined.{claim_is, now_at, part_of, same_joined}
use Rattle.open_connections.proofs.Keeping.{one_changes, others_stand, others_then}
use Rattle.open_connections.proofs.Looping.{at_most_then, step_then}
use Rattle.open_connections.proofs.Shares.{given_alike}
use Rattle.open_connections.proofs.Steps.{gone_steps, written, wire_at}
use Rattle.open_connections.proofs.Woken.{others_woken}
use Rattle.open_connections.proofs.open.Open.end.Goals as goal

pub returns-clause-lanes : goal.returns-clause-lanes
returns-clause-lanes g c =
    at_most_then g.C.LoopCore.steps (LetGo c.args.key) _ _ _ (inl (gone_steps g.C.LoopCore.steps g.S.Wire.told c.args.self.now.budgets (bytes_of c.args.self.now) _ _ c.args.self.now.connections _ c.args.key c.in-Some.conn _ c.in-Some.ensures.same (written c.args.self.now.connections c.args.key c.in-Some-get_mut.connection.now c.linger.new.self (sym c.in-Some-get_mut.ensures.value)) c.linger.ensures.line
    (inr (c.linger.ensures.wire ∙ sym (wire_at g.S.Wire.told _ _ (sym c.in-Some-get_mut.ensures.value)))) c.disconnect.ensures.closed c.disconnect.ensures.others
    (same_joined c.args.self.now.connections _ c.args.key _ (written c.args.self.now.connections c.args.key c.in-Some-get_mut.connection.now c.linger.new.self (sym c.in-Some-get_mut.ensures.value)) c.args.self.now.budgets (ap (λ (x : Option Claim). option_map part_of x) (c.linger.ensures.claim ∙ sym (claim_is c.args.self.now.connections c.args.key c.in-Some-get_mut.connection.now _ (sym c.in-Some-get_mut.ensures.value) refl)))))) c.release.ensures.lanes

pub returns-clause-closes : goal.returns-clause-closes
returns-clause-closes g c = λ o k.
    step_then g.C.LoopCore.steps (LetGo c.args.key) _ _ _ (gone_steps g.C.LoopCore.steps g.S.Wire.told c.args.self.now.budgets (bytes_of c.args.self.now) _ _ c.args.self.now.connections _ c.args.key c.in-Some.conn _ c.in-Some.ensures.same (written c.args.self.now.connections c.args.key c.in-Some-get_mut.connection.now c.linger.new.self (sym c.in-Some-get_mut.ensures.value)) c.linger.ensures.line
    (inr (c.linger.ensures.wire ∙ sym (wire_at g.S.Wire.told _ _ (sym c.in-Some-get_mut.ensures.value)))) c.disconnect.ensures.closed c.disconnect.ensures.others
    (same_joined c.args.self.now.connections _ c.args.key _ (written c.args.self.now.connections c.args.key c.in-Some-get_mut.connection.now c.linger.new.self (sym c.in-Some-get_mut.ensures.value)) c.args.self.now.budgets (ap (λ (x : Option Claim). option_map part_of x) (c.linger.ensures.claim ∙ sym (claim_is c.args.self.now.connections c.args.key c.in-Some-get_mut.connection.now _ (sym c.in-Some-get_mut.ensures.value) refl))))) c.release.ensures.lanes

pub returns-clause-others : goal.returns-clause-others
returns-clause-others g c = others_then c.args.key _ _ _ (one_changes c.args.key c.args.self.now (record c.args.self.now { connections = with_value c.args.self.now.connections c.args.key c.linger.new.self }) _ (written c.args.self.now.connections c.args.key c.in-Some-get_mut.connection.now c.linger.new.self (sym c.in-Some-get_mut.ensures.value)) (search rules)) (others_stand c.args.key (record c.args.self.now { connections = with_value c.args.self.now.connections c.args.key c.linger.new.self }) _ c.release.ensures.ready)

pub returns-clause-share : goal.returns-clause-share
returns-clause-share g c = λ k. given_alike _ _ _ c.release.ensures.given
    (now_at c.args.self.now.connections _ c.args.key _ (written c.args.self.now.connections c.args.key c.in-Some-get_mut.connection.now c.linger.new.self (sym c.in-Some-get_mut.ensures.value)) _ c.linger.ensures.claim ∙ sym (claim_is c.args.self.now.connections c.args.key c.in-Some-get_mut.connection.now _ (sym c.in-Some-get_mut.ensures.value) refl))

pub returns-clause-woken : goal.returns-clause-woken
returns-clause-woken g c = λ fact h. c.release.ensures.woken fact (others_woken _ _ _ _ c.args.self.now.connections c.args.key c.in-Some-get_mut.connection.now c.linger.new.self (sym c.in-Some-get_mut.ensures.value) c.linger.ensures.due fact h)
