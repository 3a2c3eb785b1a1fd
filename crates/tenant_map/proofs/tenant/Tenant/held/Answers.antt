use Rattle.std.proofs.Common.{◌≡◌, ◌≤◌, List, [], ℕ, length, Option, Some, None, Bor, IfSome, sym, ap, ◌∙◌, arith}
use Rattle.std.specs.Option.{MatchOption, option_copied}
use Rattle.std.specs.Map.{lookup}
use Rattle.tenant_map.specs.Keyed.{at}
use Rattle.tenant_map.specs.Maps.{Documents, Map, documents_of}
use Rattle.tenant_map.specs.Quotas.{document_quota, IsCounted}
use Rattle.tenant_map.proofs.Counts.{usage-dropped}
use Rattle.tenant_map.proofs.Mapped.{documents_some, documents_none}
use Rattle.tenant_map.proofs.tenant.Tenant.held.Goals as goal

documents_by : (c : List ℕ) (m : Map) (r : Option (Bor Documents)) → option_copied r ≡ lookup (at c) m → MatchOption r (documents_of c m ≡ []) (λ held. documents_of c m ≡ held.now)
documents_by c m None h = documents_none c m (sym h)
documents_by c m (Some held) h = documents_some c m held.now (sym h)

few_by : (c : List ℕ) (m : Map) (documents bytes : ℕ) (r : Option (Bor Documents)) → IsCounted m documents bytes → option_copied r ≡ lookup (at c) m → IfSome r (λ held. length held.now ≤ document_quota)
few_by c m documents bytes None i h = tt
few_by c m documents bytes (Some held) i h = let u = usage-dropped c held.now m (sym h) in omega (arith, u.documents, i.documents_is, i.few_documents)

pub returns-clause-documents : goal.returns-clause-documents
returns-clause-documents c = documents_by c.args.collection.now c.args.self.now c.held_at.result (c.held_at.ensures ∙ ap (lookup (at c.args.collection.now)) c.self.view_is)

pub returns-clause-few : goal.returns-clause-few
returns-clause-few c = few_by c.args.collection.now _ _ _ c.held_at.result c.self.invariant c.held_at.ensures
