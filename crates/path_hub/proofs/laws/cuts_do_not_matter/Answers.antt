use Rattle.path_hub.proofs.Once.{once_served}
use Rattle.path_hub.proofs.laws.cuts_do_not_matter.Goals as goal

pub returns : goal.returns
returns c = once_served c.told_once.ensures.among
