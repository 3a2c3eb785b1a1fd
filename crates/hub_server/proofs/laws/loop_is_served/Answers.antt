use Rattle.hub_server.proofs.Looping.{loop_served}
use Rattle.hub_server.proofs.laws.loop_is_served.Goals as goal

pub returns : goal.returns
returns c = loop_served c.turns_are_served.ensures c.wires_show_their_events.ensures
