use Rattle.json_text.proofs.Names.{◌≡◌, ◌+◌, sym, refl, subst, arith, rules}
use Rattle.std.specs.BTreeMap as tree
use Rattle.json_text.specs.declared.tape.Entry.{Entry}
use Rattle.json_text.specs.declared.tape.Role.TheVariants as roles
use Rattle.json_text.proofs.Parts.{placed}
use Rattle.text_places.specs.Twins.{AreFirstTwins}
use Rattle.text_places.proofs.Members.{quoted}
use Rattle.text_places.proofs.Repeated.{Keeps, order, no_twins, passed, added, first_twins}
use Rattle.text_places.proofs.names.first_twins.Goals.{then-is_left+in_ok-new+in_default+in_ok-insert, else-is_left}
use Rattle.text_places.proofs.names.first_twins.Goals as goal

pub new-requires : goal.new-requires
new-requires c = let j = c.requires.spelt in let role = (c.if-is_left.ensures.0 (search rules)).1 c.entry-entry.result in
    quoted c.args.text.now c.args.tape.now j.0 j.1 (c.requires.stands j.0 j.1) c.loop-n.n c.entry-entry.result (search rules) c.entry-entry.ensures (subst (λ (x : Entry). x.role ≡ roles.Member) (sym c.entry-entry.ensures) role)

pub entry-requires : goal.entry-requires
entry-requires c = let j = c.requires.spelt in let k = c.loop-n.invariant j.0 j.1 in
    let y = k.seen (c.entry-entry.result.up, c.in_ok-new.field-0) c.in-Some.first.now (sym c.in-Some.ensures.value) in
    let less = y.0 in let m = c.loop-n-test.true in let l = c.len-n-end.ensures.value in omega arith

pub returns-in-Some-clause-found : goal.returns-in-Some-clause-found
returns-in-Some-clause-found c = let j = c.requires.spelt in let role = (c.if-is_left.ensures.0 (search rules)).1 c.entry-entry.result in
    subst (λ (x : Entry). AreFirstTwins c.args.text.now x.label.start c.entry-entry.result.label.start) (sym c.entry.ensures)
    (first_twins c.args.text.now c.args.tape.now c.in_ok-marks.marks.items c.in_ok-marks.ensures.left j.0 j.1 (c.requires.stands j.0 j.1) c.loop-n.n c.entry-entry.result (search rules) c.entry-entry.ensures (subst (λ (x : Entry). x.role ≡ roles.Member) (sym c.entry-entry.ensures) role)
    (c.entry-entry.result.up, c.in_ok-new.field-0) refl c.in_ok-new.ensures.name (λ q. tree.get order c.loop-n.seen q) (c.loop-n.invariant j.0 j.1) c.in-Some.first.now c.entry.result (sym c.in-Some.ensures.value))

pub loop-n-preserved : goal.loop-n-preserved
loop-n-preserved c = λ t h. elim c.if-is_left.branch [
  | then-is_left+in_ok-new+in_default+in_ok-insert w ↦
      let role = (w.if-is_left.ensures.0 (search rules)).1 w.entry-entry.result in
      subst (λ m. Keeps c.args.text.now c.args.tape.now c.in_ok-marks.marks.items t (c.loop-n.n + 1) (λ q. tree.get order m q)) (sym w.seen-is)
      (added c.args.text.now c.args.tape.now c.in_ok-marks.marks.items c.in_ok-marks.ensures.left t h (c.requires.stands t h) c.loop-n.n w.entry-entry.result (search rules) w.entry-entry.ensures (subst (λ (x : Entry). x.role ≡ roles.Member) (sym w.entry-entry.ensures) role)
      (w.entry-entry.result.up, w.in_ok-new.field-0) refl w.in_ok-new.ensures.name (λ q. tree.get order c.loop-n.seen q) (c.loop-n.invariant t h) (sym w.in_default.ensures.value)
      (λ q. tree.get order w.insert.new.self q) w.in_ok-insert.ensures.updates.0)
  | else-is_left w ↦
      subst (λ m. Keeps c.args.text.now c.args.tape.now c.in_ok-marks.marks.items t (c.loop-n.n + 1) (λ q. tree.get order m q)) (sym w.seen-is)
      (passed c.args.text.now c.args.tape.now c.in_ok-marks.marks.items c.in_ok-marks.ensures.left t h (c.requires.stands t h) c.loop-n.n (λ q. tree.get order c.loop-n.seen q)
      (λ s. absurd (let x = w.if-is_left.ensures.1 s in search rules)) (c.loop-n.invariant t h))
]

pub returns-clause-none : goal.returns-clause-none
returns-clause-none c = λ e (t, part, h, p, q). (let a = placed p in no_twins c.args.text.now c.args.tape.now t h (c.requires.stands t h) c.in_ok-marks.marks.items c.loop-n.n _ (let m = c.loop-n-test.false in omega arith) (c.loop-n.invariant t h) part a.number a.up a.label a.is_at q)
