use Rattle.json_text.proofs.Names.{◌∙◌, sym, ap, arith, bytes_eq}
use Rattle.json_tape.specs.Document.{Doc}
use Rattle.json_strings.proofs.Spelled.{quoted_at, scalars_at}
use Rattle.json_tape.proofs.Readers.{small_count, past_is}
use Rattle.json_tape.proofs.MembersSeen.{all_rest, next_seen, none_left}
use Rattle.json_tape.proofs.document.Document.first_named.Goals as goal

pub overflow_add-k : goal.overflow_add-k
overflow_add-k c = grind (arith, small_count)

pub loop-k-init : goal.loop-k-init
loop-k-init c = all_rest c.args.self.now c.entry-object.ensures.document c.args.name.now c.args.n.0 c.requires.inside c.entry-object.result c.entry-object.ensures.value c.requires.object

pub entry-entry-requires : goal.entry-entry-requires
entry-entry-requires c = (next_seen c.args.self.now c.entry-object.ensures.document c.args.name.now c.args.n.0 c.loop-k.k c.entry-object.result.after c.loop-k.invariant c.loop-k-test.true).inside

pub is_meant_plainly-requires-clause-quoted : goal.is_meant_plainly-requires-clause-quoted
is_meant_plainly-requires-clause-quoted c =
    let x = next_seen c.args.self.now c.entry-object.ensures.document c.args.name.now c.args.n.0 c.loop-k.k c.entry-object.result.after c.loop-k.invariant c.loop-k-test.true in
    quoted_at c.args.self.now.text c.deref.result.now c.entry-entry.result.label x.member.source x.member.characters (c.deref.ensures ∙ ap (λ (x : Doc). x.text) c.self.view_is) (x.label c.entry-entry.result c.entry-entry.ensures.value) x.lies x.string

pub returns-in-Some-true-clause-node : goal.returns-in-Some-true-clause-node
returns-in-Some-true-clause-node c =
    let x = next_seen c.args.self.now c.entry-object.ensures.document c.args.name.now c.args.n.0 c.loop-k.k c.entry-object.result.after c.loop-k.invariant c.loop-k-test.true in
    let v = scalars_at c.args.self.now.text c.deref.result.now c.entry-entry.result.label x.member.source x.member.characters (c.deref.ensures ∙ ap (λ (x : Doc). x.text) c.self.view_is) (x.label c.entry-entry.result c.entry-entry.ensures.value) x.lies x.string in
    x.found (sym (c.in-Some-true.ensures ∙ ap (bytes_eq c.args.name.now) v) ∙ c.in-Some-true.field-0-test)

pub returns-in-Some-true-clause-inside : goal.returns-in-Some-true-clause-inside
returns-in-Some-true-clause-inside c = (next_seen c.args.self.now c.entry-object.ensures.document c.args.name.now c.args.n.0 c.loop-k.k c.entry-object.result.after c.loop-k.invariant c.loop-k-test.true).inside

pub loop-k-smaller : goal.loop-k-smaller
loop-k-smaller c =
    let x = next_seen c.args.self.now c.entry-object.ensures.document c.args.name.now c.args.n.0 c.loop-k.k c.entry-object.result.after c.loop-k.invariant c.loop-k-test.true in
    let p = past_is c.args.self.now c.entry-object.ensures.document c.loop-k.k x.inside c.entry-entry.result c.entry-entry.ensures.value in
    let t = c.loop-k-test.true in omega arith

pub loop-k-preserved : goal.loop-k-preserved
loop-k-preserved c =
    let x = next_seen c.args.self.now c.entry-object.ensures.document c.args.name.now c.args.n.0 c.loop-k.k c.entry-object.result.after c.loop-k.invariant c.loop-k-test.true in
    let v = scalars_at c.args.self.now.text c.deref.result.now c.entry-entry.result.label x.member.source x.member.characters (c.deref.ensures ∙ ap (λ (x : Doc). x.text) c.self.view_is) (x.label c.entry-entry.result c.entry-entry.ensures.value) x.lies x.string in
    x.passed (sym (c.in-Some-false.ensures ∙ ap (bytes_eq c.args.name.now) v) ∙ c.in-Some-false.field-0-test) c.entry-entry.result c.entry-entry.ensures.value

pub returns-clause-node : goal.returns-clause-node
returns-clause-node c = none_left c.args.self.now c.args.name.now c.args.n.0 c.loop-k.k c.entry-object.result.after c.loop-k.invariant c.loop-k-test.false
