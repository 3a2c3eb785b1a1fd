use Rattle.tenant_map.proofs.Ordered.{text_at-remove}
use Rattle.tenant_map.proofs.laws.removes_one.Goals as goal

pub returns : goal.returns
returns c = text_at-remove
