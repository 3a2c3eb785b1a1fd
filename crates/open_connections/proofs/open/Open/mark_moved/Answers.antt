use Rattle.std.proofs.Common.{refl, sym}
use Rattle.open_connections.proofs.Woken.{all_woken}
use Rattle.open_connections.proofs.Keeping.{keep_at}
use Rattle.open_connections.proofs.Steps.{stays_at}
use Rattle.open_connections.proofs.open.Open.mark_moved.Goals as goal

pub returns-clause-woken : goal.returns-clause-woken
returns-clause-woken g c = all_woken _ _ _ _ c.args.self.now.connections c.args.key c.in-Some.connection.now _ (sym c.in-Some.ensures.value) (refl, refl) refl

pub returns-clause-ready : goal.returns-clause-ready
returns-clause-ready g c = keep_at _ c.args.self.now.connections c.args.key c.in-Some.connection.now _ (sym c.in-Some.ensures.value) refl

pub returns-clause-lanes : goal.returns-clause-lanes
returns-clause-lanes g c = stays_at g.C.LoopCore.steps g.S.Wire.told _ _ _ c.args.self.now.connections c.args.key c.in-Some.connection.now (record c.in-Some.connection.now { moved = c.args.now }) (sym c.in-Some.ensures.value) (λ e. e) refl refl refl
