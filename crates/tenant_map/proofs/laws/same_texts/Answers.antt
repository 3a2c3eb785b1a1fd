use Rattle.tenant_map.proofs.Extent.{same_texts}
use Rattle.tenant_map.proofs.laws.same_texts.Goals as goal

pub returns : goal.returns
returns c = same_texts
