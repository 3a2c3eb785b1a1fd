use Rattle.std.proofs.Common.{refl}
use Rattle.admin_pages.specs.Families.{families}
use Rattle.admin_pages.proofs.laws.named_once.Goals as goal

pub returns-clause-listed : goal.returns-clause-listed
unfolding families
returns-clause-listed c = λ gauges served tenant. refl
