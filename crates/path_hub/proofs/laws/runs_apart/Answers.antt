use Rattle.path_hub.proofs.Alone.{isolated_from_run}
use Rattle.path_hub.proofs.laws.runs_apart.Goals as goal

pub returns : goal.returns
returns c = isolated_from_run c.tenants_are_apart.ensures
