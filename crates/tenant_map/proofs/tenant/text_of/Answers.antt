use Rattle.std.proofs.Common.{sym, ◌∙◌}
use Rattle.tenant_map.specs.Keyed.{at, by_bytes}
use Rattle.tenant_map.proofs.Seen.{lookup-under}
use Rattle.tenant_map.proofs.Mapped.{text_at_some, text_at_none}
use Rattle.tenant_map.proofs.tenant.text_of.Goals as goal

pub returns-in-Some-clause-value : goal.returns-in-Some-clause-value
returns-in-Some-clause-value c = c.get-in-Some.ensures.value ∙ sym (text_at_some c.args.collection.now c.args.document.now (by_bytes c.args.collections.now.entries) c.in-Some.held.now (lookup-under (λ k. k.items) (at c.args.collection.now) c.args.collections.now.entries ∙ sym c.in-Some.ensures.value))

pub returns-in-None-clause-value : goal.returns-in-None-clause-value
returns-in-None-clause-value c = sym (text_at_none c.args.collection.now c.args.document.now (by_bytes c.args.collections.now.entries) (lookup-under (λ k. k.items) (at c.args.collection.now) c.args.collections.now.entries ∙ sym c.in-None.ensures.value))
