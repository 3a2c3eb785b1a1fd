use Rattle.tenant_store.proofs.Single.{queries_answer_once}
use Rattle.tenant_store.proofs.laws.queries_answer_once.Goals as goal

pub returns : goal.returns
returns c = queries_answer_once c.one_tree.ensures
