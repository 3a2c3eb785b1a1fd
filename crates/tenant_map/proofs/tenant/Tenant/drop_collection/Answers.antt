use Rattle.std.proofs.Common.{sym, arith, subst, ◌-◌}
use Rattle.tenant_map.specs.Keyed.{by_bytes}
use Rattle.tenant_map.specs.Quotas.{IsCounted}
use Rattle.tenant_map.proofs.Counts.{usage-dropped}
use Rattle.tenant_map.proofs.Quotas.{counted_dropped}
use Rattle.tenant_map.proofs.tenant.Tenant.drop_collection.Goals as goal

pub overflow_cast-documents : goal.overflow_cast-documents
overflow_cast-documents c =
    let u = usage-dropped c.args.collection.bytes.now c.in-Some.held.now (by_bytes c.self.inside.collections.entries) (sym c.in-Some.ensures) in
    omega (arith, u.documents, c.self.invariant.documents_is, c.self.invariant.few_documents, c.len.ensures)

pub bytes-requires : goal.bytes-requires
bytes-requires c =
    let u = usage-dropped c.args.collection.bytes.now c.in-Some.held.now (by_bytes c.self.inside.collections.entries) (sym c.in-Some.ensures) in
    omega (arith, u.bytes, c.self.invariant.bytes_is, c.self.invariant.few_bytes)

pub overflow_sub-self : goal.overflow_sub-self
overflow_sub-self c =
    let u = usage-dropped c.args.collection.bytes.now c.in-Some.held.now (by_bytes c.self.inside.collections.entries) (sym c.in-Some.ensures) in
    omega (arith, u.documents, c.self.invariant.documents_is, c.len.ensures)

pub overflow_sub-self-2 : goal.overflow_sub-self-2
overflow_sub-self-2 c =
    let u = usage-dropped c.args.collection.bytes.now c.in-Some.held.now (by_bytes c.self.inside.collections.entries) (sym c.in-Some.ensures) in
    omega (arith, u.bytes, c.self.invariant.bytes_is, c.bytes.ensures)

pub invariant_of-self : goal.invariant_of-self
invariant_of-self c =
    let u = usage-dropped c.args.collection.bytes.now c.in-Some.held.now (by_bytes c.self.inside.collections.entries) (sym c.in-Some.ensures) in
    subst (λ m. IsCounted m (c.self.inside.documents - c.len.result) (c.self.inside.bytes - c.bytes.result)) (sym c.drop_at.ensures)
    (counted_dropped _ _ _ _ _ _ _ c.len.ensures c.bytes.ensures c.self.invariant u)
