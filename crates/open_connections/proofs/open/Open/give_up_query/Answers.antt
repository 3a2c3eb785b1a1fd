use Rattle.std.proofs.Common.{ℕ, ap, false, refl, subst, sym, ◌∙◌}
use Rattle.outbox.specs.Appends.{OthersKeep}
use Rattle.open_connections.specs.Opened.{bytes_of}
use Rattle.open_connections.proofs.Keeping.{keep_at}
use Rattle.open_connections.proofs.Looping.{gives_up}
use Rattle.open_connections.proofs.Waking.{awake_alike}
use Rattle.open_connections.proofs.Steps.{passed_at, stays_at, stays_past}
use Rattle.open_connections.proofs.open.Open.give_up_query.Goals as goal

pub returns-in-Some-conn_of-clause-awake : goal.returns-in-Some-conn_of-clause-awake
returns-in-Some-conn_of-clause-awake g c = awake_alike c.args.self.now.has_missed c.args.self.now.connections c.args.key c.in-Some.connection.now (sym c.in-Some.ensures.value)

pub returns-in_default-conn_of-clause-ready : goal.returns-in_default-conn_of-clause-ready
returns-in_default-conn_of-clause-ready g c = keep_at _ c.args.self.now.connections c.args.key c.in-Some.connection.now _ (sym c.in-Some.ensures.value) refl

pub returns-in_default-conn_of-clause-awake : goal.returns-in_default-conn_of-clause-awake
returns-in_default-conn_of-clause-awake g c = awake_alike c.args.self.now.has_missed c.args.self.now.connections c.args.key c.in-Some.connection.now (sym c.in-Some.ensures.value)

pub returns-in-Some-conn_of-clause-lanes : goal.returns-in-Some-conn_of-clause-lanes
returns-in-Some-conn_of-clause-lanes g c = λ not_due.
    let o = c.args.self.now in
    let connection = c.in-Some.connection.now in
    let others : OthersKeep g.C.LoopCore.steps.left c.args.key o.core c.give_up.new.self = subst (λ (k : ℕ). OthersKeep g.C.LoopCore.steps.left k o.core c.give_up.new.self) c.in-Some-conn_of.ensures.same c.give_up.ensures.others in
    stays_past c.args.key _ _ (passed_at g.C.LoopCore.steps g.S.Wire.told o.budgets (bytes_of o) o.core c.give_up.new.self o.connections c.args.key connection (record connection { is_working = false }) (sym c.in-Some.ensures.value) refl refl refl c.give_up.ensures.seen others)
    (gives_up _ _ not_due (ap (λ (k : ℕ). g.C.LoopCore.steps.left k c.give_up.new.self) (sym c.in-Some-conn_of.ensures.same) ∙ c.give_up.ensures.ended))

pub returns-in_default-conn_of-clause-lanes : goal.returns-in_default-conn_of-clause-lanes
returns-in_default-conn_of-clause-lanes g c = λ not_due. stays_at g.C.LoopCore.steps g.S.Wire.told _ _ _ c.args.self.now.connections c.args.key c.in-Some.connection.now (record c.in-Some.connection.now { is_working = false }) (sym c.in-Some.ensures.value) (λ e. e) refl refl refl
