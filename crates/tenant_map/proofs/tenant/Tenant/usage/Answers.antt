use Rattle.std.proofs.Common.{◌≡◌, sym, ap, ◌∙◌, arith, length, subst}
use Rattle.tenant_map.specs.Maps.{IsMap, documents_in, bytes_in}
use Rattle.tenant_map.specs.Quotas.{IsCounted}
use Rattle.tenant_map.proofs.Seen.{length-seen}
use Rattle.tenant_map.proofs.Quotas.{within_quotas}
use Rattle.tenant_map.proofs.tenant.Tenant.usage.Goals as goal

pub overflow_cast-result : goal.overflow_cast-result
overflow_cast-result c = omega (arith, length-seen (λ k. k.items) (λ x. x) c.self.inside.collections.entries, c.self.invariant.few_collections, c.len.ensures.len)

pub returns-clause-counted : goal.returns-clause-counted
returns-clause-counted c =
    let n : c.len.result ≡ length c.args.self.now = c.len.ensures.len ∙ sym (length-seen (λ k. k.items) (λ x. x) c.self.inside.collections.entries) ∙ ap length c.self.view_is in
    let d : c.self.inside.documents ≡ documents_in c.args.self.now = c.self.invariant.documents_is ∙ ap documents_in c.self.view_is in
    let b : c.self.inside.bytes ≡ bytes_in c.args.self.now = c.self.invariant.bytes_is ∙ ap bytes_in c.self.view_is in
    λ i. record { collections = n i; documents = d i; bytes = b i }

pub returns-clause-within : goal.returns-clause-within
returns-clause-within c = within_quotas c.args.self.now c.self.inside.documents c.self.inside.bytes (subst (λ m. IsCounted m c.self.inside.documents c.self.inside.bytes) c.self.view_is c.self.invariant)

pub returns-clause-ordered : goal.returns-clause-ordered
returns-clause-ordered c = subst IsMap c.self.view_is c.self.invariant.ordered
