use Rattle.node_lists.proofs.Picking.{at_place, picked_first}
use Rattle.node_lists.proofs.laws.places_step_on.Goals as goal

pub returns : goal.returns
returns c = record { first = picked_first; at = at_place }
