use Rattle.std.proofs.Common.{false, refl, sym}
use Rattle.open_connections.proofs.Keeping.{keep_at}
use Rattle.open_connections.proofs.Steps.{passed_at}
use Rattle.open_connections.proofs.open.Open.take_off.Goals as goal

pub returns-in-Some-clause-ready : goal.returns-in-Some-clause-ready
returns-in-Some-clause-ready g c = keep_at _ c.args.self.now.connections c.args.key c.in-Some.connection.now _ (sym c.in-Some.ensures.value) refl

pub returns-in-Some-clause-lanes : goal.returns-in-Some-clause-lanes
returns-in-Some-clause-lanes g c = passed_at g.C.LoopCore.steps g.S.Wire.told _ _ _ _ c.args.self.now.connections c.args.key c.in-Some.connection.now (record c.in-Some.connection.now { is_due = false }) (sym c.in-Some.ensures.value) refl refl refl refl (λ q e. refl)
