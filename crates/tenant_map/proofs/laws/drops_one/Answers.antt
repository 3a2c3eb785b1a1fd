use Rattle.tenant_map.proofs.Ordered.{text_at-drop}
use Rattle.tenant_map.proofs.laws.drops_one.Goals as goal

pub returns : goal.returns
returns c = text_at-drop
