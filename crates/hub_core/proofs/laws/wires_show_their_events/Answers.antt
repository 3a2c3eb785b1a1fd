use Rattle.hub_core.proofs.Wires.{moment}
use Rattle.hub_core.proofs.laws.wires_show_their_events.Goals as goal

pub returns : goal.returns
returns c = moment
