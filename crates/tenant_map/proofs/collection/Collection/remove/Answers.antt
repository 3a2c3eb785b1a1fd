use Rattle.std.proofs.Common.{sym, ap, ◌∙◌, subst}
use Rattle.std.specs.Option.{option_map}
use Rattle.std.specs.Map.{lookup, remove_entry}
use Rattle.tenant_map.specs.Keyed.{at}
use Rattle.tenant_map.specs.Kept.{texts, IsKept, AreKept}
use Rattle.tenant_map.proofs.Seen.{lookup-seen, remove_entry-seen, All-remove_entry}
use Rattle.tenant_map.proofs.Keeping.{short_if}
use Rattle.tenant_map.proofs.collection.Collection.remove.Goals as goal

pub returns-clause-value : goal.returns-clause-value
returns-clause-value c = ap (option_map (λ d. d.text)) c.remove.ensures.value ∙ sym (lookup-seen (λ k. k.items) (λ d. d.text) (at c.args.name.now) c.self.inside.documents.entries) ∙ ap (lookup (at c.args.name.now)) c.self.view_is

pub returns-clause-rest : goal.returns-clause-rest
returns-clause-rest c = ap texts c.remove.ensures.entries ∙ sym (remove_entry-seen (λ k. k.items) (λ d. d.text) (at c.args.name.now) c.self.inside.documents.entries) ∙ ap (remove_entry (at c.args.name.now)) c.self.view_is

pub returns-clause-short : goal.returns-clause-short
returns-clause-short c = short_if _ c.self.inside.documents.entries c.self.invariant c.remove.result c.remove.ensures.value

pub invariant_of-self : goal.invariant_of-self
invariant_of-self c = subst AreKept (sym c.remove.ensures.entries) (All-remove_entry IsKept _ c.self.inside.documents.entries c.self.invariant)
