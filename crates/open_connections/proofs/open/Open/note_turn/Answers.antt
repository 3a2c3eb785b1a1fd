use Rattle.std.proofs.Common.{refl, sym}
use Rattle.open_connections.proofs.Steps.{stays_at}
use Rattle.open_connections.proofs.open.Open.note_turn.Goals as goal

pub returns-clause-lanes : goal.returns-clause-lanes
returns-clause-lanes g c = stays_at g.C.LoopCore.steps g.S.Wire.told _ _ _ c.args.self.now.connections c.args.key c.in-Some-get_mut.connection.now (record c.in-Some-get_mut.connection.now { worked = c.worked-connection.result; tenant = c.heard-connection.result; is_working = c.in-Some.answered.has_gone_on }) (sym c.in-Some-get_mut.ensures.value) (λ e. e) refl refl refl
