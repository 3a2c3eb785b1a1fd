use Rattle.std.proofs.Common.{false, refl, sym}
use Rattle.open_connections.proofs.Keeping.{claim_kept, keep_at}
use Rattle.open_connections.specs.Opened.{bytes_of}
use Rattle.open_connections.proofs.Steps.{passed_at}
use Rattle.open_connections.proofs.Woken.{taken_off}
use Rattle.open_connections.proofs.open.Open.plan.Goals as goal

pub returns-in-Served-clause-ready : goal.returns-in-Served-clause-ready
returns-in-Served-clause-ready g c = keep_at _ c.args.self.now.connections c.args.key c.in_ok-connection.connection.now _ (sym c.in_ok-connection.ensures.value) refl

pub returns-in-Lingering-clause-ready : goal.returns-in-Lingering-clause-ready
returns-in-Lingering-clause-ready g c = keep_at _ c.args.self.now.connections c.args.key c.in_ok-connection.connection.now _ (sym c.in_ok-connection.ensures.value) refl

pub returns-in-Served-clause-woken : goal.returns-in-Served-clause-woken
returns-in-Served-clause-woken g c = λ fact h.
    let o = c.args.self.now in
    rw (c.begin.ensures.first, c.begin.ensures.rest) (taken_off o.bound o.has_missed o.due.first.items o.due.rest.items o.connections c.args.key c.in_ok-connection.connection.now _ (sym c.in_ok-connection.ensures.value) refl fact h)

pub returns-in-Lingering-clause-woken : goal.returns-in-Lingering-clause-woken
returns-in-Lingering-clause-woken g c = λ fact h.
    let o = c.args.self.now in
    rw (c.begin.ensures.first, c.begin.ensures.rest) (taken_off o.bound o.has_missed o.due.first.items o.due.rest.items o.connections c.args.key c.in_ok-connection.connection.now _ (sym c.in_ok-connection.ensures.value) refl fact h)

pub returns-in-Served-clause-lanes : goal.returns-in-Served-clause-lanes
returns-in-Served-clause-lanes g c =
    let o = c.args.self.now in
    let connection = c.in_ok-connection.connection.now in
    rw c.prepare.ensures (passed_at g.C.LoopCore.steps g.S.Wire.told o.budgets (bytes_of o) o.core o.core o.connections c.args.key connection (record connection { is_due = false }) (sym c.in_ok-connection.ensures.value) refl refl refl refl (λ q e. refl))

pub returns-in-Lingering-clause-lanes : goal.returns-in-Lingering-clause-lanes
returns-in-Lingering-clause-lanes g c =
    let o = c.args.self.now in
    let connection = c.in_ok-connection.connection.now in
    rw c.prepare.ensures (passed_at g.C.LoopCore.steps g.S.Wire.told o.budgets (bytes_of o) o.core o.core o.connections c.args.key connection (record connection { is_due = false }) (sym c.in_ok-connection.ensures.value) refl refl refl refl (λ q e. refl))

pub returns-in-Served-clause-claim : goal.returns-in-Served-clause-claim
returns-in-Served-clause-claim g c = claim_kept c.args.self.now.connections c.args.key c.in_ok-connection.connection.now _ (sym c.in_ok-connection.ensures.value) refl

pub returns-in-Lingering-clause-claim : goal.returns-in-Lingering-clause-claim
returns-in-Lingering-clause-claim g c = claim_kept c.args.self.now.connections c.args.key c.in_ok-connection.connection.now _ (sym c.in_ok-connection.ensures.value) refl
