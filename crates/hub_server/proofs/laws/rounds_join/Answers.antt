use Rattle.hub_server.proofs.Looping.{rounds_joined}
use Rattle.hub_server.proofs.laws.rounds_join.Goals as goal

pub returns : goal.returns
returns c = rounds_joined c.turns_are_served.ensures c.wires_show_their_events.ensures
