use Rattle.json_text.proofs.Names.{◌∙◌, sym, ap, arith, bytes_eq}
use Rattle.json_tape.specs.Document.{Doc}
use Rattle.json_strings.specs.Keys.{sought_name}
use Rattle.json_strings.proofs.Spelled.{quoted_at, scalars_at}
use Rattle.json_tape.proofs.Readers.{small_count, past_is}
use Rattle.json_tape.proofs.MembersSeen.{all_rest, next_seen, none_left}
use Rattle.json_tape.proofs.document.Document.first_meant.Goals as goal

pub overflow_add-next : goal.overflow_add-next
overflow_add-next c = grind (arith, small_count)

pub loop-next-init : goal.loop-next-init
loop-next-init c = all_rest c.args.self.now c.entry-object.ensures.document (sought_name c.args.sought) c.args.n.0 c.requires.inside c.entry-object.result c.entry-object.ensures.value c.requires.object

pub entry-entry-requires : goal.entry-entry-requires
entry-entry-requires c = (next_seen c.args.self.now c.entry-object.ensures.document (sought_name c.args.sought) c.args.n.0 c.loop-next.next c.entry-object.result.after c.loop-next.invariant c.loop-next-test.true).inside

pub is_sought-requires : goal.is_sought-requires
is_sought-requires c =
    let x = next_seen c.args.self.now c.entry-object.ensures.document (sought_name c.args.sought) c.args.n.0 c.loop-next.next c.entry-object.result.after c.loop-next.invariant c.loop-next-test.true in
    quoted_at c.args.self.now.text c.deref.result.now c.entry-entry.result.label x.member.source x.member.characters (c.deref.ensures ∙ ap (λ (x : Doc). x.text) c.self.view_is) (x.label c.entry-entry.result c.entry-entry.ensures.value) x.lies x.string

pub returns-then-is_sought-clause-node : goal.returns-then-is_sought-clause-node
returns-then-is_sought-clause-node c =
    let x = next_seen c.args.self.now c.entry-object.ensures.document (sought_name c.args.sought) c.args.n.0 c.loop-next.next c.entry-object.result.after c.loop-next.invariant c.loop-next-test.true in
    let v = scalars_at c.args.self.now.text c.deref.result.now c.entry-entry.result.label x.member.source x.member.characters (c.deref.ensures ∙ ap (λ (x : Doc). x.text) c.self.view_is) (x.label c.entry-entry.result c.entry-entry.ensures.value) x.lies x.string in
    x.found (sym (c.is_sought.ensures ∙ ap (bytes_eq (sought_name c.args.sought)) v) ∙ c.if-is_sought.true)

pub returns-then-is_sought-clause-inside : goal.returns-then-is_sought-clause-inside
returns-then-is_sought-clause-inside c = (next_seen c.args.self.now c.entry-object.ensures.document (sought_name c.args.sought) c.args.n.0 c.loop-next.next c.entry-object.result.after c.loop-next.invariant c.loop-next-test.true).inside

pub loop-next-smaller : goal.loop-next-smaller
loop-next-smaller c =
    let x = next_seen c.args.self.now c.entry-object.ensures.document (sought_name c.args.sought) c.args.n.0 c.loop-next.next c.entry-object.result.after c.loop-next.invariant c.loop-next-test.true in
    let p = past_is c.args.self.now c.entry-object.ensures.document c.loop-next.next x.inside c.entry-entry.result c.entry-entry.ensures.value in
    let t = c.loop-next-test.true in omega arith

pub loop-next-preserved : goal.loop-next-preserved
loop-next-preserved c =
    let x = next_seen c.args.self.now c.entry-object.ensures.document (sought_name c.args.sought) c.args.n.0 c.loop-next.next c.entry-object.result.after c.loop-next.invariant c.loop-next-test.true in
    let v = scalars_at c.args.self.now.text c.deref.result.now c.entry-entry.result.label x.member.source x.member.characters (c.deref.ensures ∙ ap (λ (x : Doc). x.text) c.self.view_is) (x.label c.entry-entry.result c.entry-entry.ensures.value) x.lies x.string in
    x.passed (sym (c.is_sought.ensures ∙ ap (bytes_eq (sought_name c.args.sought)) v) ∙ c.if-is_sought.false) c.entry-entry.result c.entry-entry.ensures.value

pub returns-clause-node : goal.returns-clause-node
returns-clause-node c = none_left c.args.self.now (sought_name c.args.sought) c.args.n.0 c.loop-next.next c.entry-object.result.after c.loop-next.invariant c.loop-next-test.false
