use Rattle.std.proofs.Common.{◌≡◌, ◌+◌, ◌-◌, ◌≤◌, sym, ap, ◌∙◌, List, ℕ, length, arith}
use Rattle.tenant_map.specs.declared.usage.Usage.{Usage}
use Rattle.tenant_map.specs.Quotas.{IsCounted}
use Rattle.tenant_map.specs.Keyed.{by_bytes}
use Rattle.tenant_map.proofs.Seen.{length-seen}
use Rattle.tenant_map.specs.Maps.{Map, put_text, documents_in, bytes_in}
use Rattle.tenant_map.specs.Quotas.{replaced, usage_of}
use Rattle.tenant_map.proofs.Counts.{usage-put}
use Rattle.tenant_map.proofs.tenant.Tenant.usage_after.Goals as goal

few : (n : ℕ) (m : Map) (documents bytes : ℕ) → n ≡ length m → IsCounted m documents bytes → n ≤ 16
few n m documents bytes h i = omega (arith, i.few_collections)

pub overflow_cast-result : goal.overflow_cast-result
overflow_cast-result c = let f = few c.len.result _ _ _ (c.len.ensures.len ∙ sym (length-seen (λ k. k.items) (λ x. x) c.self.inside.collections.entries)) c.self.invariant in omega arith

pub overflow_add-result : goal.overflow_add-result
overflow_add-result c = let f = few c.len.result _ _ _ (c.len.ensures.len ∙ sym (length-seen (λ k. k.items) (λ x. x) c.self.inside.collections.entries)) c.self.invariant in omega arith

-- the usage of the map that the fields count
after : (c d t : List ℕ) (m : Map) (n documents bytes : ℕ) (held : Usage) → n ≡ length m → IsCounted m documents bytes → held ≡ replaced c d m
    → ◌≡◌ {A = Usage} (record { collections = n + 1 - held.collections; documents = documents + 1 - held.documents; bytes = bytes + length t - held.bytes }) (usage_of (put_text c d t m))
after c d t m n documents bytes held h i r =
    let u = usage-put c d t m in
    let x : n + 1 - held.collections ≡ length (put_text c d t m) = omega (arith, u.collections, ap (λ (v : Usage). v.collections) r) in
    let y : documents + 1 - held.documents ≡ documents_in (put_text c d t m) = omega (arith, u.documents, i.documents_is, ap (λ (v : Usage). v.documents) r) in
    let z : bytes + length t - held.bytes ≡ bytes_in (put_text c d t m) = omega (arith, u.bytes, i.bytes_is, ap (λ (v : Usage). v.bytes) r) in
    λ k. record { collections = x k; documents = y k; bytes = z k }

enough : (c d t : List ℕ) (m : Map) (documents bytes : ℕ) (held : Usage) → IsCounted m documents bytes → held ≡ replaced c d m → held.bytes ≤ bytes + length t
enough c d t m documents bytes held i r = omega (arith, (usage-put c d t m).bytes, i.bytes_is, ap (λ (v : Usage). v.bytes) r)

pub overflow_sub-result-3 : goal.overflow_sub-result-3
overflow_sub-result-3 c = enough c.args.collection.now c.args.document.now c.args.text.now (by_bytes c.self.inside.collections.entries) _ _ c.counted-held.result c.self.invariant c.counted-held.ensures

pub returns : goal.returns
returns c =
    after c.args.collection.now c.args.document.now c.args.text.now (by_bytes c.self.inside.collections.entries) c.len.result _ _ c.counted-held.result
    (c.len.ensures.len ∙ sym (length-seen (λ k. k.items) (λ x. x) c.self.inside.collections.entries)) c.self.invariant c.counted-held.ensures
    ∙ ap (λ m. usage_of (put_text c.args.collection.now c.args.document.now c.args.text.now m)) c.self.view_is
