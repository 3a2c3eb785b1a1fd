use Rattle.std.proofs.Common.{refl, sym}
use Rattle.open_connections.proofs.Keeping.{keep_at}
use Rattle.open_connections.proofs.Steps.{stays_at}
use Rattle.open_connections.proofs.open.Open.note_part.Goals as goal

pub returns-in-Some-clause-ready : goal.returns-in-Some-clause-ready
returns-in-Some-clause-ready g c = keep_at _ c.args.self.now.connections c.args.key c.in-Some.connection.now _ (sym c.in-Some.ensures.value) refl

pub returns-in-Some-clause-lanes : goal.returns-in-Some-clause-lanes
returns-in-Some-clause-lanes g c = stays_at g.C.LoopCore.steps g.S.Wire.told _ _ _ c.args.self.now.connections c.args.key c.in-Some.connection.now (record c.in-Some.connection.now { has_part = c.has_part-connection.result }) (sym c.in-Some.ensures.value) (λ e. e) refl refl refl
