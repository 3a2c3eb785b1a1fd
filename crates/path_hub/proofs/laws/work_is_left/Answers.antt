use Rattle.path_hub.proofs.WorkLeft.{is_left}
use Rattle.path_hub.proofs.laws.work_is_left.Goals as goal

pub returns : goal.returns
returns c = is_left
