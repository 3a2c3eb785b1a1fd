use Rattle.std.proofs.Common.{◌≡◌, sym, ap, ◌∙◌, Option, Some, None, List, ℕ, length, arith}
use Rattle.std.specs.Map.{lookup}
use Rattle.tenant_map.specs.Keyed.{at, by_bytes}
use Rattle.tenant_map.specs.Maps.{Documents, Map}
use Rattle.tenant_map.specs.Quotas.{replaced, replaced_by, replaced_text}
use Rattle.tenant_map.proofs.Seen.{lookup-under}
use Rattle.tenant_map.proofs.tenant.counted.Goals as goal

replaced_at : (c d : List ℕ) (m : Map) (o : Option Documents) → lookup (at c) m ≡ o → replaced_by d o ≡ replaced c d m
replaced_at c d m o h = sym (ap (replaced_by d) h)

pub overflow_cast-result : goal.overflow_cast-result
overflow_cast-result c = omega (arith, ap (λ (t : List ℕ). length t) c.source.ensures.value, c.in-Some-get.ensures.short)

pub returns-in-None : goal.returns-in-None
returns-in-None c = replaced_at c.args.collection.now c.args.document.now (by_bytes c.args.collections.now.entries) None (lookup-under (λ k. k.items) (at c.args.collection.now) c.args.collections.now.entries ∙ sym c.in-None.ensures.value)

pub returns-in-None-get : goal.returns-in-None-get
returns-in-None-get c =
    ap replaced_text c.in-None-get.ensures.value
    ∙ replaced_at c.args.collection.now c.args.document.now (by_bytes c.args.collections.now.entries) (Some c.in-Some.held.now) (lookup-under (λ k. k.items) (at c.args.collection.now) c.args.collections.now.entries ∙ sym c.in-Some.ensures.value)

pub returns-in-Some-get : goal.returns-in-Some-get
returns-in-Some-get c =
    ap (λ (t : List ℕ). replaced_text (Some t)) c.source.ensures.value ∙ ap replaced_text c.in-Some-get.ensures.value
    ∙ replaced_at c.args.collection.now c.args.document.now (by_bytes c.args.collections.now.entries) (Some c.in-Some.held.now) (lookup-under (λ k. k.items) (at c.args.collection.now) c.args.collections.now.entries ∙ sym c.in-Some.ensures.value)
