use Rattle.std.proofs.Common.{arith, length, inl, inr, refl, subst, sym, rules, ℕ}
use Rattle.connection_turns.specs.Planning.{can_go_by}
use Rattle.connection_turns.specs.Turning.{Adds}
use Rattle.open_connections.specs.Opened.{bytes_of}
use Rattle.open_connections.specs.Turns.{held_at}
use Rattle.open_connections.proofs.Holding.{not_held_by}
use Rattle.open_connections.proofs.Looping.{turn_of_none}
use Rattle.open_connections.proofs.Steps.{written}
use Rattle.open_connections.proofs.Turns.{at_slot, drain_lanes, drained_by, lingers_by, served_by, turn_lanes, turned_by}
use Rattle.open_connections.proofs.Keeping.{claim_kept, one_changes}
use Rattle.open_connections.proofs.Woken.{others_woken}
use Rattle.open_connections.proofs.open.Open.work.Goals as goal

pub returns-in-Lingering-clause-lanes : goal.returns-in-Lingering-clause-lanes
returns-in-Lingering-clause-lanes g c =
    inr (drain_lanes g.C.LoopCore.steps g.S.Wire.told c.args.self.now.budgets _ (bytes_of c.args.self.now) _ c.args.self.now.core _ c.args.self.now.connections _ c.args.key c.in-Some-get_mut.connection.now c.drain.new.self (sym c.in-Some-get_mut.ensures.value)
    (written c.args.self.now.connections c.args.key c.in-Some-get_mut.connection.now c.drain.new.self (sym c.in-Some-get_mut.ensures.value)) refl c.drain.ensures.claim refl refl c.in-Lingering.is c.drain.ensures.line c.drain.ensures.wire)

pub returns-in-Lingering-clause-given : goal.returns-in-Lingering-clause-given
returns-in-Lingering-clause-given g c =
    at_slot _ _ c.in-Some-get_mut.connection.now (sym c.in-Some-get_mut.ensures.value) (λ k. lingers_by g.C.LoopCore.steps g.S.Wire.told c.args.plan (held_at g.C.LoopCore.waits g.C.LoopCore.longs c.args.key c.args.self.now) c.args.key c.in-Some-get_mut.connection.now _ c.args.self.now _ c.in-Lingering.is
    (drained_by g.C.LoopCore.steps g.S.Wire.told c.args.key _ c.args.self.now _ c.in-Some-get_mut.connection.now c.drain.new.self (sym c.in-Some-get_mut.ensures.value)
    (written c.args.self.now.connections c.args.key c.in-Some-get_mut.connection.now c.drain.new.self (sym c.in-Some-get_mut.ensures.value)) refl c.drain.ensures.claim refl refl c.in-Lingering.is c.drain.ensures.phase c.drain.ensures.line c.drain.ensures.wire (c.drain.ensures.goes_on (search arith))))

pub returns-in-Served-clause-lanes : goal.returns-in-Served-clause-lanes
returns-in-Served-clause-lanes g c =
    inl (turn_lanes g.C.LoopCore.steps g.S.Wire.told (can_go_by c.args.plan c.in-Some-get_mut.connection.now.ready c.in-Some-get_mut.connection.now.outbox) c.args.self.now.budgets _ (bytes_of c.args.self.now) _ c.args.self.now.core c.turn-read.new.core c.args.self.now.connections _ c.args.key c.in-Some.conn c.in-Some-get_mut.connection.now c.turn-read.new.self _ _
    (λ old piece new t. t) (λ old reply new a. a) c.in-Some.ensures.same (sym c.in-Some-get_mut.ensures.value)
    (written c.args.self.now.connections c.args.key c.in-Some-get_mut.connection.now c.turn-read.new.self (sym c.in-Some-get_mut.ensures.value)) refl c.turn-read.ensures.claim c.in-Served.is c.turn-read.ensures.phase c.turn-read.ensures.others c.turn-read.ensures.turn
    (record { read = c.turn-read.result.0; written = c.turn-read.result.1; moved = c.turn-read.ensures.moved; read_is = c.added-self.ensures.all; written_is = c.added-self-in-Served.ensures.all }))

pub returns-in-Served-clause-given : goal.returns-in-Served-clause-given
returns-in-Served-clause-given g c =
    at_slot _ _ c.in-Some-get_mut.connection.now (sym c.in-Some-get_mut.ensures.value) (λ k. served_by g.C.LoopCore.steps g.S.Wire.told c.args.plan (held_at g.C.LoopCore.waits g.C.LoopCore.longs c.args.key c.args.self.now) c.args.key c.in-Some-get_mut.connection.now _ c.args.self.now _ c.in-Served.is
    (turned_by g.C.LoopCore.steps g.S.Wire.told c.args.plan (held_at g.C.LoopCore.waits g.C.LoopCore.longs c.args.key c.args.self.now) c.args.key c.in-Some.conn _ c.args.self.now _ c.in-Some-get_mut.connection.now c.turn-read.new.self _ _ (λ old piece new t. t) (λ old reply new a. a) c.in-Some.ensures.same (sym c.in-Some-get_mut.ensures.value)
    (written c.args.self.now.connections c.args.key c.in-Some-get_mut.connection.now c.turn-read.new.self (sym c.in-Some-get_mut.ensures.value)) refl c.turn-read.ensures.claim c.in-Served.is c.turn-read.ensures.phase c.turn-read.ensures.others c.turn-read.ensures.turn
    (record { read = c.turn-read.result.0; written = c.turn-read.result.1; moved = c.turn-read.ensures.moved; read_is = c.added-self.ensures.all; written_is = c.added-self-in-Served.ensures.all }) c.outcome.ensures.over
    (subst (λ (n : ℕ). Adds c.args.plan (g.C.LoopCore.steps.answers n) (g.C.LoopCore.steps.seen c.args.self.now.core) (length c.in-Some-get_mut.connection.now.outbox.owed) (length c.turn-read.new.self.outbox.owed)) c.in-Some.ensures.same c.turn-read.ensures.owed)
    (λ held answers can. c.turn-read.ensures.advances answers can
    (not_held_by g.C.LoopCore.waits g.C.LoopCore.longs c.args.key c.in-Some.conn _ _ c.args.self.now.core c.in-Some.ensures.same c.share_of-share.ensures.brief held))))

pub returns-in-Lingering-clause-others : goal.returns-in-Lingering-clause-others
returns-in-Lingering-clause-others g c = one_changes c.args.key c.args.self.now _ _ (written c.args.self.now.connections c.args.key c.in-Some-get_mut.connection.now c.drain.new.self (sym c.in-Some-get_mut.ensures.value)) (search rules)

pub returns-in-Served-clause-others : goal.returns-in-Served-clause-others
returns-in-Served-clause-others g c = one_changes c.args.key c.args.self.now _ _ (written c.args.self.now.connections c.args.key c.in-Some-get_mut.connection.now c.turn-read.new.self (sym c.in-Some-get_mut.ensures.value)) (search rules)

pub returns-in-Served-clause-woken : goal.returns-in-Served-clause-woken
returns-in-Served-clause-woken g c = others_woken _ _ _ _ c.args.self.now.connections c.args.key c.in-Some-get_mut.connection.now c.turn-read.new.self (sym c.in-Some-get_mut.ensures.value) c.turn-read.ensures.due

pub returns-in-Lingering-clause-claim : goal.returns-in-Lingering-clause-claim
returns-in-Lingering-clause-claim g c = claim_kept c.args.self.now.connections c.args.key c.in-Some-get_mut.connection.now c.drain.new.self (sym c.in-Some-get_mut.ensures.value) c.drain.ensures.claim

pub returns-in-Served-clause-claim : goal.returns-in-Served-clause-claim
returns-in-Served-clause-claim g c = claim_kept c.args.self.now.connections c.args.key c.in-Some-get_mut.connection.now c.turn-read.new.self (sym c.in-Some-get_mut.ensures.value) c.turn-read.ensures.claim

pub returns-in_default-clause-lanes : goal.returns-in_default-clause-lanes
returns-in_default-clause-lanes g c = turn_of_none g.C.LoopCore.steps c.args.key _
