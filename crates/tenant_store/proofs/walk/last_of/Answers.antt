use Rattle.std.specs.Map.Iter.{deref_pair}
use Rattle.tenant_store.proofs.Passing.{next_left}
use Rattle.tenant_store.proofs.walk.last_of.Goals as goal

pub loop-passed-preserved : goal.loop-passed-preserved
loop-passed-preserved c =
    next_left deref_pair c.loop-passed._passed c.args.documents.now.entries c.loop-passed.last c.next.new.self c.next.result c.loop-passed.invariant c.next.ensures.steps
