use Rattle.std.proofs.Common.{sym, ap, ◌∙◌}
use Rattle.tenant_map.specs.Keyed.{at, by_bytes}
use Rattle.tenant_map.proofs.Seen.{remove_entry-seen}
use Rattle.tenant_map.proofs.tenant.drop_at.Goals as goal

pub returns : goal.returns
returns c = ap by_bytes c.remove.ensures.entries ∙ sym (remove_entry-seen (λ k. k.items) (λ x. x) (at c.args.collection.now) c.args.collections.now.entries)
