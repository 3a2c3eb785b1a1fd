use Rattle.tenant_store.proofs.FirstFault.{queries_refuse_in_order}
use Rattle.tenant_store.proofs.laws.queries_refuse_in_order.Goals as goal

pub returns : goal.returns
returns c = queries_refuse_in_order c.one_tree.ensures
