use Rattle.open_connections.proofs.Woken.{stays_by, turn_comes}
use Rattle.open_connections.proofs.laws.turns_pass.Goals as goal

pub returns : goal.returns
returns g c = record {
  woken = stays_by;
  had = λ due a b h fact e. h fact (turn_comes a.bound a.has_missed a.due.first.items a.due.rest.items a.connections due fact e);
}
