use Rattle.std.proofs.Common.{sym, ap, arith, List, ℕ, length, subst, ◌-◌}
use Rattle.tenant_map.specs.Keyed.{by_bytes}
use Rattle.tenant_map.specs.Quotas.{IsCounted}
use Rattle.tenant_map.proofs.Counts.{usage-without}
use Rattle.tenant_map.proofs.Quotas.{counted_without}
use Rattle.tenant_map.proofs.tenant.Tenant.remove.Goals as goal

pub overflow_sub-self : goal.overflow_sub-self
overflow_sub-self c =
    let u = usage-without c.args.collection.bytes.now c.args.document.bytes.now c.in-Some.taken.text (by_bytes c.self.inside.collections.entries) (sym c.in-Some.ensures.value) in
    omega (arith, u.documents, c.self.invariant.documents_is)

pub overflow_sub-self-in-Some : goal.overflow_sub-self-in-Some
overflow_sub-self-in-Some c =
    let u = usage-without c.args.collection.bytes.now c.args.document.bytes.now c.in-Some.taken.text (by_bytes c.self.inside.collections.entries) (sym c.in-Some.ensures.value) in
    omega (arith, u.bytes, c.self.invariant.bytes_is, ap (λ (x : List ℕ). length x) c.source.ensures.value)

pub invariant_of-self : goal.invariant_of-self
invariant_of-self c =
    let u = usage-without c.args.collection.bytes.now c.args.document.bytes.now c.in-Some.taken.text (by_bytes c.self.inside.collections.entries) (sym c.in-Some.ensures.value) in
    subst (λ m. IsCounted m (c.self.inside.documents - 1) (c.self.inside.bytes - length c.source.result.now)) (sym c.in-Some.ensures.taken)
    (counted_without _ _ _ _ _ _ c.source.result.now c.source.ensures.value c.self.invariant u)
