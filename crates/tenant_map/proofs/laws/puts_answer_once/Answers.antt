use Rattle.tenant_map.proofs.Single.{puts_answer_once}
use Rattle.tenant_map.proofs.laws.puts_answer_once.Goals as goal

pub returns : goal.returns
returns c = puts_answer_once
