use Rattle.std.proofs.Common.{refl}
use Rattle.open_connections.proofs.Keeping.{keep_then}
use Rattle.open_connections.proofs.Looping.{stays_in, stays_then}
use Rattle.open_connections.proofs.open.Open.count_turn.Goals as goal

pub returns-in-Some-clause-lanes : goal.returns-in-Some-clause-lanes
returns-in-Some-clause-lanes g c = stays_then _ _ _ (rw c.take_micros-micros.ensures (stays_in _ _ _ _ _ _ _ _ refl (λ j. j))) (stays_then _ _ _ c.note_turn.ensures.lanes c.renew.ensures.lanes)

pub returns-in-Some-clause-ready : goal.returns-in-Some-clause-ready
returns-in-Some-clause-ready g c = keep_then _ _ _ _ c.note_turn.ensures.ready c.renew.ensures.ready
