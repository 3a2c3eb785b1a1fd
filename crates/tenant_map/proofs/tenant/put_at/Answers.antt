use Rattle.std.proofs.Common.{◌≡◌, sym, ap, ◌∙◌, Some, None}
use Rattle.std.proofs.lemmas.Result.{on_ok_weaker, on_err_weaker}
use Rattle.std.specs.Map.{lookup, set_value}
use Rattle.std.specs.BTreeMap.{insert_entry}
use Rattle.tenant_map.specs.Keyed.{at, by_bytes, bytes_cmp, upsert}
use Rattle.tenant_map.proofs.Seen.{lookup-under, set_value-seen, insert_entry-seen}
use Rattle.std.proofs.lemmas.Map.Steps.{set_value_same}
use Rattle.tenant_map.proofs.Mapped.{put_some, put_none}
use Rattle.tenant_map.proofs.tenant.put_at.Goals as goal

pub returns-in-Some-clause-ok : goal.returns-in-Some-clause-ok
returns-in-Some-clause-ok c =
    let m = by_bytes c.args.collections.now.entries in
    let h : lookup (at c.args.collection.now) m ≡ Some c.in-Some.held.now = lookup-under (λ k. k.items) (at c.args.collection.now) c.args.collections.now.entries ∙ sym c.in-Some.ensures.value in
    let w = ap by_bytes (c.get_mut.follows.holds c.put.new.self).0 ∙ sym (set_value-seen (λ k. k.items) (λ x. x) (at c.args.collection.now) c.args.collections.now.entries c.put.new.self) in
    on_ok_weaker c.put.result (λ e. w ∙ ap (set_value (at c.args.collection.now) m) e ∙ put_some c.args.collection.now c.args.document.now c.args.read.text m c.in-Some.held.now h) c.put.ensures.ok

pub returns-in-Some-clause-err : goal.returns-in-Some-clause-err
returns-in-Some-clause-err c =
    let m = by_bytes c.args.collections.now.entries in
    let h : lookup (at c.args.collection.now) m ≡ Some c.in-Some.held.now = lookup-under (λ k. k.items) (at c.args.collection.now) c.args.collections.now.entries ∙ sym c.in-Some.ensures.value in
    let w = ap by_bytes (c.get_mut.follows.holds c.put.new.self).0 ∙ sym (set_value-seen (λ k. k.items) (λ x. x) (at c.args.collection.now) c.args.collections.now.entries c.put.new.self) in
    on_err_weaker c.put.result (λ e. w ∙ ap (set_value (at c.args.collection.now) m) e ∙ set_value_same (at c.args.collection.now) m c.in-Some.held.now h) c.put.ensures.err

pub returns-in_ok-insert-in-None-clause-ok : goal.returns-in_ok-insert-in-None-clause-ok
returns-in_ok-insert-in-None-clause-ok c =
    let m = by_bytes c.args.collections.now.entries in
    let n = c.get_mut.follows.lender-at-none in
    let h : lookup (at c.args.collection.now) m ≡ None = lookup-under (λ k. k.items) (at c.args.collection.now) c.args.collections.now.entries ∙ sym c.in-None.ensures.value in
    ap by_bytes c.in_ok-insert-in-None.ensures.entries
    ∙ sym (insert_entry-seen (λ k. k.items) (λ x. x) bytes_cmp n.entries c.in_ok-name-in-None.name c.put-in-None.new.self)
    ∙ ap (λ x. insert_entry bytes_cmp (by_bytes x.entries) c.in_ok-name-in-None.name.items c.put-in-None.new.self) c.get_mut.follows.holds-at-none
    ∙ ap (λ k. insert_entry bytes_cmp m k c.put-in-None.new.self) c.in_ok-name-in-None.ensures.items
    ∙ ap (insert_entry bytes_cmp m c.args.collection.now) (c.in_ok-put-in-None.ensures.ok ∙ ap (λ es. upsert c.args.document.now c.args.read.text es) c.new-made.ensures)
    ∙ put_none c.args.collection.now c.args.document.now c.args.read.text m h
