use Rattle.std.proofs.Common.{◌≡◌, ◌≤◌, ◌+◌, ◌*◌, ℕ, [], length, min, sym, ap, ◌∙◌, subst, arith}
use Rattle.tenant_map.specs.declared.usage.Usage.{Usage}
use Rattle.tenant_map.specs.Kept.{texts}
use Rattle.tenant_map.specs.Listings.{listing}
use Rattle.tenant_map.specs.Maps.{Documents, documents_of}
use Rattle.hub_core.proofs.Bounds.{length-texts, names_short, list_short, held_few, within_all}
use Rattle.hub_core.proofs.weights.most_list.Goals as goal

pub returns-in-Some : goal.returns-in-Some
returns-in-Some c =
    let es = c.in-Some.documents.now.entries in
    let name = c.args.collection.bytes.now in
    let m = c.args.tenant.now in
    let n = length es in
    let all = c.usage-all.result.documents in
    let here : length (documents_of name m) ≡ n = ap (λ (ds : Documents). length ds) c.in-Some.ensures.texts ∙ length-texts es in
    let short : length (listing (documents_of name m)) ≤ 4 + 129 * n =
    subst (λ (ds : Documents). length (listing ds) ≤ 4 + 129 * n) (sym c.in-Some.ensures.texts) (list_short (texts es) n (names_short es c.in-Some.ensures.kept)) in
    let few : n ≤ all = omega (arith, held_few name m, here, ap (λ (u : Usage). u.documents) c.usage-all.ensures.counted) in
    let least : c.min.result ≡ min n all = c.min.ensures ∙ ap (λ (k : ℕ). min k all) c.len.ensures.len in
    omega (arith, within_all (length (listing (documents_of name m))) n all short few, least)

pub returns-in-None : goal.returns-in-None
returns-in-None c = omega (arith, ap (λ (ds : Documents). length (listing ds)) c.in-None.ensures.texts, list_short [] 0 (omega arith))
