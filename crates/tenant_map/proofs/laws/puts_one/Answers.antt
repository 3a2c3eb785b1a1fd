use Rattle.tenant_map.proofs.Ordered.{text_at-put}
use Rattle.tenant_map.proofs.laws.puts_one.Goals as goal

pub returns : goal.returns
returns c = text_at-put
