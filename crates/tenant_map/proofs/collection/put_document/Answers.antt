use Rattle.std.proofs.Common.{◌≡◌, ◌≤◌, length, subst, sym, ap, ◌∙◌, List, ℕ, Some, None}
use Rattle.std.specs.Option.{option_map}
use Rattle.std.specs.Map.{lookup}
use Rattle.std.specs.BTreeMap.{insert_entry}
use Rattle.tenant_map.specs.Keyed.{at, bytes_cmp, upsert_by}
use Rattle.tenant_map.specs.Kept.{texts, IsKept, AreKept}
use Rattle.tenant_map.proofs.Seen.{lookup-seen, set_value-seen, insert_entry-seen, All-set_value, All-insert_entry}
use Rattle.tenant_map.proofs.collection.put_document.Goals as goal

pub returns-in-Some-clause-ok : goal.returns-in-Some-clause-ok
returns-in-Some-clause-ok c =
    let m = texts c.args.documents.now.entries in
    let h : lookup (at c.args.name.now) m ≡ Some c.in-Some.held.now.text = lookup-seen (λ k. k.items) (λ d. d.text) (at c.args.name.now) c.args.documents.now.entries ∙ sym (ap (option_map (λ d. d.text)) c.in-Some.ensures.value) in
    ap texts (c.get_mut.follows.holds c.args.document).0 ∙ sym (set_value-seen (λ k. k.items) (λ d. d.text) (at c.args.name.now) c.args.documents.now.entries c.args.document)
    ∙ sym (ap (λ o. upsert_by o c.args.name.now c.args.document.text m) h)

pub returns-in_ok-insert-in-None-clause-ok : goal.returns-in_ok-insert-in-None-clause-ok
returns-in_ok-insert-in-None-clause-ok c =
    let m = texts c.args.documents.now.entries in
    let n = c.get_mut.follows.lender-at-none in
    let h : lookup (at c.args.name.now) m ≡ None = lookup-seen (λ k. k.items) (λ d. d.text) (at c.args.name.now) c.args.documents.now.entries ∙ sym (ap (option_map (λ d. d.text)) c.in-None.ensures.value) in
    ap texts c.in_ok-insert-in-None.ensures.entries
    ∙ sym (insert_entry-seen (λ k. k.items) (λ d. d.text) bytes_cmp n.entries c.in_ok-name-in-None.name c.args.document)
    ∙ ap (λ x. insert_entry bytes_cmp (texts x.entries) c.in_ok-name-in-None.name.items c.args.document.text) c.get_mut.follows.holds-at-none
    ∙ ap (λ k. insert_entry bytes_cmp m k c.args.document.text) c.in_ok-name-in-None.ensures.items
    ∙ sym (ap (λ o. upsert_by o c.args.name.now c.args.document.text m) h)

pub returns-in-Some-clause-kept : goal.returns-in-Some-clause-kept
returns-in-Some-clause-kept c =
    subst AreKept (sym (c.get_mut.follows.holds c.args.document).0)
    (All-set_value IsKept _ c.args.documents.now.entries c.args.document (λ k x p. record { short = p.short; accepted = c.requires.accepted }) c.requires.kept)

pub returns-in_ok-insert-in-None-clause-kept : goal.returns-in_ok-insert-in-None-clause-kept
returns-in_ok-insert-in-None-clause-kept c =
    let n = c.get_mut.follows.lender-at-none in
    subst AreKept (sym c.in_ok-insert-in-None.ensures.entries)
    (All-insert_entry IsKept _ n.entries c.in_ok-name-in-None.name c.args.document (λ k x p. record { short = p.short; accepted = c.requires.accepted })
    (record { short = subst (λ (s : List ℕ). length s ≤ 128) (sym c.in_ok-name-in-None.ensures.items) c.requires.short; accepted = c.requires.accepted })
    (subst (λ m. AreKept m.entries) (sym c.get_mut.follows.holds-at-none) c.requires.kept))
