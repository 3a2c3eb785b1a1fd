use Rattle.path_hub.proofs.Standing.{stands}
use Rattle.path_hub.proofs.laws.sessions_stand_in_streams.Goals as goal

pub returns : goal.returns
returns c = stands c.splits_from_the_front.ensures
