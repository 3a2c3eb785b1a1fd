use Rattle.std.proofs.Common.{◌≡◌, List, [], refl, rules, subst, sym, true}
use Rattle.due_list.specs.Rounds.{due_at}
use Rattle.due_list.specs.declared.due.Due.{Due}
use Rattle.slab.specs.Slab.{with_value}
use Rattle.open_connections.specs.Woken.{is_so_in, sparing}
use Rattle.open_connections.proofs.Keeping.{keep_at}
use Rattle.open_connections.proofs.Steps.{stays_at}
use Rattle.open_connections.proofs.Woken.{list_grows, made_due, missed_woken, others_woken, rests_woken, stands_last, woken_at}
use Rattle.open_connections.proofs.open.Open.add_turn.Goals as goal

pub returns-in-Ok-clause-ready : goal.returns-in-Ok-clause-ready
returns-in-Ok-clause-ready g c = keep_at _ c.args.self.now.connections c.args.key c.in-Some.connection.now _ (sym c.in-Some.ensures.value) refl

pub returns-in-Ok-clause-woken : goal.returns-in-Ok-clause-woken
returns-in-Ok-clause-woken g c = λ fact h.
    let connection = c.in-Some.connection.now in
    made_due _ _ _ _ c.args.self.now.connections c.args.key connection _ (sym c.in-Some.ensures.value) refl
    (λ more. stands_last c.args.key connection.number connection.tenant connection.is_working c.args.self.now.due c.add.new.self more c.in-Ok.ensures.last) fact
    (list_grows _ _ c.args.self.now.connections connection.is_working (due_at c.args.key connection.number connection.tenant) c.args.self.now.due c.add.new.self c.in-Ok.ensures.last (sparing c.args.key fact) h)

pub returns-in-Ok-clause-lanes : goal.returns-in-Ok-clause-lanes
returns-in-Ok-clause-lanes g c = stays_at g.C.LoopCore.steps g.S.Wire.told _ _ _ c.args.self.now.connections c.args.key c.in-Some.connection.now (record c.in-Some.connection.now { is_due = true }) (sym c.in-Some.ensures.value) (λ e. refl) refl refl refl

pub returns-then-not-can_go_on-clause-woken : goal.returns-then-not-can_go_on-clause-woken
returns-then-not-can_go_on-clause-woken g c = λ fact h.
    let o = c.args.self.now in
    woken_at _ _ _ _ _ c.args.key (rests_woken 0 o.has_missed [] [] c.has_room-has_room.result o.connections c.args.key c.in-Some.connection.now (sym c.in-Some.ensures.value) (search rules)) fact
    (others_woken o.bound o.has_missed o.due.first.items o.due.rest.items o.connections c.args.key c.in-Some.connection.now c.in-Some.connection.now (sym c.in-Some.ensures.value) (refl, refl) fact h)

pub returns-then-not-can_go_on-clause-lanes : goal.returns-then-not-can_go_on-clause-lanes
returns-then-not-can_go_on-clause-lanes g c = stays_at g.C.LoopCore.steps g.S.Wire.told _ _ _ c.args.self.now.connections c.args.key c.in-Some.connection.now c.in-Some.connection.now (sym c.in-Some.ensures.value) (λ e. e) refl refl refl

pub returns-then-not-can_go_on-clause-ready : goal.returns-then-not-can_go_on-clause-ready
returns-then-not-can_go_on-clause-ready g c = keep_at _ c.args.self.now.connections c.args.key c.in-Some.connection.now c.in-Some.connection.now (sym c.in-Some.ensures.value) refl

pub returns-then-not-can_go_on-clause-claims : goal.returns-then-not-can_go_on-clause-claims
returns-then-not-can_go_on-clause-claims g c = keep_at _ c.args.self.now.connections c.args.key c.in-Some.connection.now c.in-Some.connection.now (sym c.in-Some.ensures.value) refl

pub returns-then-not-can_go_on-clause-awake : goal.returns-then-not-can_go_on-clause-awake
returns-then-not-can_go_on-clause-awake g c = rests_woken 0 c.args.self.now.has_missed [] [] c.has_room-has_room.result c.args.self.now.connections c.args.key c.in-Some.connection.now (sym c.in-Some.ensures.value) (search rules)

pub returns-in-Err-clause-lanes : goal.returns-in-Err-clause-lanes
returns-in-Err-clause-lanes g c = stays_at g.C.LoopCore.steps g.S.Wire.told _ _ _ c.args.self.now.connections c.args.key c.in-Some.connection.now c.in-Some.connection.now (sym c.in-Some.ensures.value) (λ e. e) refl refl refl

pub returns-in-Err-clause-ready : goal.returns-in-Err-clause-ready
returns-in-Err-clause-ready g c = keep_at _ c.args.self.now.connections c.args.key c.in-Some.connection.now c.in-Some.connection.now (sym c.in-Some.ensures.value) refl

pub returns-in-Err-clause-claims : goal.returns-in-Err-clause-claims
returns-in-Err-clause-claims g c = keep_at _ c.args.self.now.connections c.args.key c.in-Some.connection.now c.in-Some.connection.now (sym c.in-Some.ensures.value) refl

pub returns-in-Err-clause-woken : goal.returns-in-Err-clause-woken
returns-in-Err-clause-woken g c = λ fact h.
    let o = c.args.self.now in
    let missed = missed_woken o.bound o.has_missed o.due.first.items o.due.rest.items _ (sparing c.args.key fact) (others_woken o.bound o.has_missed o.due.first.items o.due.rest.items c.args.self.now.connections c.args.key c.in-Some.connection.now c.in-Some.connection.now (sym c.in-Some.ensures.value) (refl, refl) fact h) in
    woken_at _ _ _ _ _ c.args.key refl fact
    (subst (λ (xs : List Due). is_so_in (sparing c.args.key fact) o.bound true (with_value c.args.self.now.connections c.args.key c.in-Some.connection.now) xs c.add.new.self.rest.items ≡ true) (sym c.in-Err.ensures.unchanged.0)
    (subst (λ (xs : List Due). is_so_in (sparing c.args.key fact) o.bound true (with_value c.args.self.now.connections c.args.key c.in-Some.connection.now) o.due.first.items xs ≡ true) (sym c.in-Err.ensures.unchanged.1) missed))
