use Rattle.json_text.proofs.Names.{◌∙◌, sym, refl, arith, IsText, Tree}
use Rattle.text_places.proofs.Seeking.{begins, over_between, over_opening, over_closing, over_string, over_word, no_end, found_deep, found_beyond, nothing_found}
use Rattle.text_places.proofs.firsts.first_in.Goals as goal

pub loop-at-init : goal.loop-at-init
loop-at-init c = (omega arith, (λ t h. begins c.args.sought c.args.text.now t h))

pub loop-at-preserved-then-is_between : goal.loop-at-preserved-then-is_between
loop-at-preserved-then-is_between c = let i = c.loop-at.invariant in
    (let k = i.0 in omega arith, (λ t h. over_between c.args.sought c.args.text.now t c.loop-at.level c.loop-at.at (i.1 t h) c.loop-at-test.true (c.is_between.ensures.0 c.if-is_between.true)))

pub returns-in-None-clause-none : goal.returns-in-None-clause-none
returns-in-None-clause-none c = let j = c.requires in
    absurd (no_end c.args.sought c.args.text.now j.0 c.loop-at.level c.loop-at.at (c.loop-at.invariant.1 j.0 j.1) c.loop-at-test.true (sym c.if-byte-eq34.true) (sym c.string_past.ensures ∙ c.in-None.is))

pub loop-at-smaller-then-byte-eq34 : goal.loop-at-smaller-then-byte-eq34
loop-at-smaller-then-byte-eq34 c = let j = c.requires in
    let x = over_string c.args.sought c.args.text.now j.0 c.loop-at.level c.loop-at.at (c.loop-at.invariant.1 j.0 j.1) c.loop-at-test.true (sym c.if-byte-eq34.true) c.in-Some.end (sym c.string_past.ensures ∙ c.in-Some.is) in
    let k = x.0 in let l = c.loop-at-test.true in omega arith

pub loop-at-preserved-then-byte-eq34 : goal.loop-at-preserved-then-byte-eq34
loop-at-preserved-then-byte-eq34 c =
    let i = c.loop-at.invariant in let j = c.requires in
    let to = λ (t : Tree) (h : IsText c.args.text.now t). over_string c.args.sought c.args.text.now t c.loop-at.level c.loop-at.at (i.1 t h) c.loop-at-test.true (sym c.if-byte-eq34.true) c.in-Some.end (sym c.string_past.ensures ∙ c.in-Some.is) in
    (let x = (to j.0 j.1).0 in let k = i.0 in omega arith, (λ t h. (to t h).1))

pub returns-then-is_too_deep-clause-found : goal.returns-then-is_too_deep-clause-found
returns-then-is_too_deep-clause-found c = let j = c.requires in let d = c.is_too_deep.ensures.0 c.if-is_too_deep.true in
    found_deep c.args.sought c.args.text.now j.0 c.loop-at.level c.loop-at.at (c.loop-at.invariant.1 j.0 j.1) c.loop-at-test.true j.1 (c.is_opening.ensures.0 c.if-is_opening.true) d.0 d.1

pub loop-at-preserved-then-is_opening : goal.loop-at-preserved-then-is_opening
loop-at-preserved-then-is_opening c = let i = c.loop-at.invariant in (
  let k = i.0 in omega arith,
  (λ t h. over_opening c.args.sought c.args.text.now t c.loop-at.level c.loop-at.at (i.1 t h) c.loop-at-test.true (c.is_opening.ensures.0 c.if-is_opening.true) (λ d. (let x = c.is_too_deep.ensures.1 d in let y = c.if-is_too_deep.false in cc))),
)

pub overflow_sub-level : goal.overflow_sub-level
overflow_sub-level c = let j = c.requires in
    (over_closing c.args.sought c.args.text.now j.0 c.loop-at.level c.loop-at.at (c.loop-at.invariant.1 j.0 j.1) c.loop-at-test.true (c.is_closing.ensures.0 c.if-is_closing.true)).0

pub loop-at-preserved-then-is_closing : goal.loop-at-preserved-then-is_closing
loop-at-preserved-then-is_closing c = let i = c.loop-at.invariant in
    (let k = i.0 in omega arith, (λ t h. (over_closing c.args.sought c.args.text.now t c.loop-at.level c.loop-at.at (i.1 t h) c.loop-at-test.true (c.is_closing.ensures.0 c.if-is_closing.true)).1))

pub returns-then-is_beyond-clause-found : goal.returns-then-is_beyond-clause-found
returns-then-is_beyond-clause-found c = let j = c.requires in let x = c.is_beyond.ensures.0 c.if-is_beyond.true in
    found_beyond c.args.sought c.args.text.now j.0 c.loop-at.level c.loop-at.at (c.loop-at.invariant.1 j.0 j.1) c.loop-at-test.true
    (λ b. (let y = c.is_between.ensures.1 b in let z = c.if-is_between.false in cc)) (λ e. c.if-byte-eq34.false (sym e))
    (λ b. (let y = c.is_opening.ensures.1 b in let z = c.if-is_opening.false in cc)) (λ b. (let y = c.is_closing.ensures.1 b in let z = c.if-is_closing.false in cc))
    c.word_past-end.result c.word_past-end.ensures.value j.1 x.0 _ refl x.1 x.2

pub loop-at-smaller : goal.loop-at-smaller
loop-at-smaller c = let j = c.requires in
    let x = over_word c.args.sought c.args.text.now j.0 c.loop-at.level c.loop-at.at (c.loop-at.invariant.1 j.0 j.1) c.loop-at-test.true
    (λ b. (let y = c.is_between.ensures.1 b in let z = c.if-is_between.false in cc)) (λ e. c.if-byte-eq34.false (sym e))
    (λ b. (let y = c.is_opening.ensures.1 b in let z = c.if-is_opening.false in cc)) (λ b. (let y = c.is_closing.ensures.1 b in let z = c.if-is_closing.false in cc))
    c.word_past-end.result c.word_past-end.ensures.value _ refl (λ b. (let y = c.is_beyond.ensures.1 b in let z = c.if-is_beyond.false in cc)) in
    let k = x.0 in let l = c.loop-at-test.true in omega arith

pub loop-at-preserved : goal.loop-at-preserved
loop-at-preserved c =
    let i = c.loop-at.invariant in (
      let k = i.0 in let b = c.word_past-end.ensures.behind in omega arith,
      (λ t h. (over_word c.args.sought c.args.text.now t c.loop-at.level c.loop-at.at (i.1 t h) c.loop-at-test.true
          (λ b. (let y = c.is_between.ensures.1 b in let z = c.if-is_between.false in cc)) (λ e. c.if-byte-eq34.false (sym e))
          (λ b. (let y = c.is_opening.ensures.1 b in let z = c.if-is_opening.false in cc)) (λ b. (let y = c.is_closing.ensures.1 b in let z = c.if-is_closing.false in cc))
          c.word_past-end.result c.word_past-end.ensures.value _ refl (λ b. (let y = c.is_beyond.ensures.1 b in let z = c.if-is_beyond.false in cc))).1),
    )

pub returns-clause-none : goal.returns-clause-none
returns-clause-none c = λ e x. nothing_found c.args.sought c.args.text.now c.loop-at.level c.loop-at.at (let l = c.loop-at-test.false in omega arith) c.loop-at.invariant.1 x
