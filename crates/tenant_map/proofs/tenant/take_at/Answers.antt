use Rattle.std.proofs.Common.{◌≡◌, sym, ap, ◌∙◌, Some, length, arith}
use Rattle.std.specs.Map.{lookup, set_value}
use Rattle.tenant_map.specs.Keyed.{at, by_bytes}
use Rattle.tenant_map.specs.Maps.{drop_texts, keep}
use Rattle.tenant_map.proofs.Seen.{lookup-under, set_value-seen}
use Rattle.std.proofs.lemmas.Map.Steps.{set_value_same}
use Rattle.tenant_map.proofs.Mapped.{text_at_some, text_at_none, remove_absent, removed_some, kept_none, kept_some}
use Rattle.tenant_map.proofs.tenant.take_at.Goals as goal

pub returns-in-None-clause-value : goal.returns-in-None-clause-value
returns-in-None-clause-value c = sym (text_at_none c.args.collection.now c.args.document.now (by_bytes c.args.collections.now.entries) (lookup-under (λ k. k.items) (at c.args.collection.now) c.args.collections.now.entries ∙ sym c.in-None.ensures.value))

pub returns-in-None-remove-clause-value : goal.returns-in-None-remove-clause-value
returns-in-None-remove-clause-value c = c.in-None-remove.ensures.value ∙ sym (text_at_some c.args.collection.now c.args.document.now (by_bytes c.args.collections.now.entries) c.in-Some.held.now (lookup-under (λ k. k.items) (at c.args.collection.now) c.args.collections.now.entries ∙ sym c.in-Some.ensures.value))

pub returns-in-None-remove-clause-unchanged : goal.returns-in-None-remove-clause-unchanged
returns-in-None-remove-clause-unchanged c =
    let m = by_bytes c.args.collections.now.entries in
    let h : lookup (at c.args.collection.now) m ≡ Some c.in-Some.held.now = lookup-under (λ k. k.items) (at c.args.collection.now) c.args.collections.now.entries ∙ sym c.in-Some.ensures.value in
    ap by_bytes (c.get_mut.follows.holds c.remove.new.self).0 ∙ sym (set_value-seen (λ k. k.items) (λ x. x) (at c.args.collection.now) c.args.collections.now.entries c.remove.new.self)
    ∙ ap (set_value (at c.args.collection.now) m) (c.remove.ensures.rest ∙ remove_absent (at c.args.document.now) c.in-Some.held.now (sym c.in-None-remove.ensures.value))
    ∙ set_value_same (at c.args.collection.now) m c.in-Some.held.now h

pub returns-then-len-eq0-clause-value : goal.returns-then-len-eq0-clause-value
returns-then-len-eq0-clause-value c = c.in-Some-remove.ensures.value ∙ sym (text_at_some c.args.collection.now c.args.document.now (by_bytes c.args.collections.now.entries) c.in-Some.held.now (lookup-under (λ k. k.items) (at c.args.collection.now) c.args.collections.now.entries ∙ sym c.in-Some.ensures.value))

pub returns-then-len-eq0-clause-taken : goal.returns-then-len-eq0-clause-taken
returns-then-len-eq0-clause-taken c =
    let m = by_bytes c.args.collections.now.entries in
    let h : lookup (at c.args.collection.now) m ≡ Some c.in-Some.held.now = lookup-under (λ k. k.items) (at c.args.collection.now) c.args.collections.now.entries ∙ sym c.in-Some.ensures.value in
    let w = ap by_bytes (c.get_mut.follows.holds c.remove.new.self).0 ∙ sym (set_value-seen (λ k. k.items) (λ x. x) (at c.args.collection.now) c.args.collections.now.entries c.remove.new.self) in
    let none : 0 ≡ length c.remove.new.self = omega (arith, c.len.ensures, c.if-len-eq0.true) in
    c.drop_at.ensures ∙ ap (drop_texts c.args.collection.now) w ∙ kept_none c.args.collection.now m c.remove.new.self none
    ∙ ap (λ es. keep c.args.collection.now es m) c.remove.ensures.rest ∙ removed_some c.args.collection.now c.args.document.now m c.in-Some.held.now h

pub returns-else-len-eq0-clause-value : goal.returns-else-len-eq0-clause-value
returns-else-len-eq0-clause-value c = c.in-Some-remove.ensures.value ∙ sym (text_at_some c.args.collection.now c.args.document.now (by_bytes c.args.collections.now.entries) c.in-Some.held.now (lookup-under (λ k. k.items) (at c.args.collection.now) c.args.collections.now.entries ∙ sym c.in-Some.ensures.value))

pub returns-else-len-eq0-clause-taken : goal.returns-else-len-eq0-clause-taken
returns-else-len-eq0-clause-taken c =
    let m = by_bytes c.args.collections.now.entries in
    let h : lookup (at c.args.collection.now) m ≡ Some c.in-Some.held.now = lookup-under (λ k. k.items) (at c.args.collection.now) c.args.collections.now.entries ∙ sym c.in-Some.ensures.value in
    let w = ap by_bytes (c.get_mut.follows.holds c.remove.new.self).0 ∙ sym (set_value-seen (λ k. k.items) (λ x. x) (at c.args.collection.now) c.args.collections.now.entries c.remove.new.self) in
    w ∙ kept_some c.args.collection.now m c.remove.new.self (λ (e : 0 ≡ length c.remove.new.self). absurd (omega (arith, c.len.ensures, c.if-len-eq0.false)))
    ∙ ap (λ es. keep c.args.collection.now es m) c.remove.ensures.rest ∙ removed_some c.args.collection.now c.args.document.now m c.in-Some.held.now h
