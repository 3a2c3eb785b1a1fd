use Rattle.std.proofs.Common.{◌≡◌, nat_cmp, sym, ap, ap₂, ◌∙◌}
use Rattle.decimal_order.specs.Words.{word, marks, digit_places}
use Rattle.decimal_order.proofs.Bytes.{AllBelow}
use Rattle.decimal_order.proofs.PlainTexts.{number_not_empty, bytes, are_plain, shorter_order, longer_order, places_order, words_order}
use Rattle.decimal_order.proofs.short.compare_short.Goals as goal

pub word-x-requires-clause-at_least : goal.word-x-requires-clause-at_least
word-x-requires-clause-at_least c = number_not_empty c.args.a.now c.requires.a_number

pub word-y-requires-clause-at_least : goal.word-y-requires-clause-at_least
word-y-requires-clause-at_least c = number_not_empty c.args.b.now c.requires.b_number

pub returns-then-a_marks-b_marks : goal.returns-then-a_marks-b_marks
returns-then-a_marks-b_marks c =
    let x = c.word-x.ensures in
    let y = c.word-y.ensures in
    let bytes_a : AllBelow 256 (bytes c.args.a.now) = λ i. (c.type_inv.a i).fits in
    let bytes_b : AllBelow 256 (bytes c.args.b.now) = λ i. (c.type_inv.b i).fits in
    let plain = are_plain c.args.a.now c.args.b.now c.requires.a_number c.requires.b_number bytes_a bytes_b c.if-a-gt-BYTES.false c.if-b-gt-BYTES.false (rw (← x, ← y) c.if-x-y-ne0.false) (rw (← x, ← y) c.if-x-y-eq0.false) in
    let p : c.marks-a_marks.result ≡ marks (word c.args.a.now) = c.marks-a_marks.ensures ∙ ap marks x in
    let q : c.marks-b_marks.result ≡ marks (word c.args.b.now) = c.marks-b_marks.ensures ∙ ap marks y in
    words_order c.args.a.now c.args.b.now plain.0 plain.1 bytes_a bytes_b c.cmp.result (sym p ∙ c.if-a_marks-b_marks.true ∙ q) (c.cmp.ensures ∙ ap₂ nat_cmp x y)

pub returns-then-a_marks-b_marks-2 : goal.returns-then-a_marks-b_marks-2
returns-then-a_marks-b_marks-2 c =
    let x = c.word-x.ensures in
    let y = c.word-y.ensures in
    let bytes_a : AllBelow 256 (bytes c.args.a.now) = λ i. (c.type_inv.a i).fits in
    let bytes_b : AllBelow 256 (bytes c.args.b.now) = λ i. (c.type_inv.b i).fits in
    let plain = are_plain c.args.a.now c.args.b.now c.requires.a_number c.requires.b_number bytes_a bytes_b c.if-a-gt-BYTES.false c.if-b-gt-BYTES.false (rw (← x, ← y) c.if-x-y-ne0.false) (rw (← x, ← y) c.if-x-y-eq0.false) in
    let p : c.marks-a_marks.result ≡ marks (word c.args.a.now) = c.marks-a_marks.ensures ∙ ap marks x in
    let q : c.marks-b_marks.result ≡ marks (word c.args.b.now) = c.marks-b_marks.ensures ∙ ap marks y in
    shorter_order c.args.a.now c.args.b.now plain.0 plain.1 bytes_a bytes_b (rw (← p, ← q) c.if-a_marks-b_marks-2.true)

pub returns-then-b_marks-a_marks : goal.returns-then-b_marks-a_marks
returns-then-b_marks-a_marks c =
    let x = c.word-x.ensures in
    let y = c.word-y.ensures in
    let bytes_a : AllBelow 256 (bytes c.args.a.now) = λ i. (c.type_inv.a i).fits in
    let bytes_b : AllBelow 256 (bytes c.args.b.now) = λ i. (c.type_inv.b i).fits in
    let plain = are_plain c.args.a.now c.args.b.now c.requires.a_number c.requires.b_number bytes_a bytes_b c.if-a-gt-BYTES.false c.if-b-gt-BYTES.false (rw (← x, ← y) c.if-x-y-ne0.false) (rw (← x, ← y) c.if-x-y-eq0.false) in
    let p : c.marks-a_marks.result ≡ marks (word c.args.a.now) = c.marks-a_marks.ensures ∙ ap marks x in
    let q : c.marks-b_marks.result ≡ marks (word c.args.b.now) = c.marks-b_marks.ensures ∙ ap marks y in
    longer_order c.args.a.now c.args.b.now plain.0 plain.1 bytes_a bytes_b (rw (← p, ← q) c.if-b_marks-a_marks.true)

pub returns : goal.returns
returns c =
    let x = c.word-x.ensures in
    let y = c.word-y.ensures in
    let bytes_a : AllBelow 256 (bytes c.args.a.now) = λ i. (c.type_inv.a i).fits in
    let bytes_b : AllBelow 256 (bytes c.args.b.now) = λ i. (c.type_inv.b i).fits in
    let plain = are_plain c.args.a.now c.args.b.now c.requires.a_number c.requires.b_number bytes_a bytes_b c.if-a-gt-BYTES.false c.if-b-gt-BYTES.false (rw (← x, ← y) c.if-x-y-ne0.false) (rw (← x, ← y) c.if-x-y-eq0.false) in
    let p : c.marks-a_marks.result ≡ marks (word c.args.a.now) = c.marks-a_marks.ensures ∙ ap marks x in
    let q : c.marks-b_marks.result ≡ marks (word c.args.b.now) = c.marks-b_marks.ensures ∙ ap marks y in
    places_order c.args.a.now c.args.b.now plain.0 plain.1 bytes_a bytes_b c.cmp-2.result (rw (← p, ← q) c.if-a_marks-b_marks-2.false) (rw (← p, ← q) c.if-b_marks-a_marks.false)
    (c.cmp-2.ensures ∙ ap₂ nat_cmp (c.digit_places.ensures ∙ ap digit_places x) (c.digit_places-2.ensures ∙ ap digit_places y))
