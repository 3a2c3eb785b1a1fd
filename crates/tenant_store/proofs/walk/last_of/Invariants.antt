use Rattle.std.proofs.Common.{◌≡◌, drop}
use Rattle.tenant_store.proofs.walk.last_of.Given as goal

abbrev pub invariant-loop-passed : goal.invariant-loop-passed
invariant-loop-passed l = l.last ≡ drop l._passed l.documents.entries
