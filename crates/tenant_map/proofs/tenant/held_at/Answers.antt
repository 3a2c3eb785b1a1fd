use Rattle.std.proofs.Common.{sym, ◌∙◌}
use Rattle.tenant_map.specs.Keyed.{at}
use Rattle.tenant_map.proofs.Seen.{lookup-under}
use Rattle.tenant_map.proofs.tenant.held_at.Goals as goal

pub returns : goal.returns
returns c = c.get.ensures.value ∙ sym (lookup-under (λ k. k.items) (at c.args.collection.now) c.args.collections.now.entries)
