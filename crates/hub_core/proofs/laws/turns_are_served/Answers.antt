use Rattle.hub_core.proofs.Serving.{all_served}
use Rattle.hub_core.proofs.laws.turns_are_served.Goals as goal

pub returns : goal.returns
returns c = all_served (record { standing = c.sessions_stand_in_streams.ensures; order = c.in_order.ensures.all; some = c.in_order.ensures.taken; apart = c.runs_apart.ensures })
