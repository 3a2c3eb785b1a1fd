use Rattle.json_text.proofs.Names.{◌+◌, length, get_or, sym, ap, ◌∙◌, subst, arith, rules}
use Rattle.std.proofs.lemmas.List.{length-set}
use Rattle.text_places.specs.Marks.{one_more, AreCounted}
use Rattle.text_places.proofs.Counted.{mark_counted, none_counted, one_more_some, one_more_two, zero_counted}
use Rattle.text_places.proofs.marks.counted.Goals.{then-marks-n-ne0, else-marks-n-ne0}
use Rattle.text_places.proofs.marks.counted.Goals as goal

pub loop-n-init : goal.loop-n-init
loop-n-init c = (c.in_ok-counts.ensures, none_counted c.args.factor c.args.marks.now c.in_ok-counts.counts.items)

pub loop-n-preserved : goal.loop-n-preserved
loop-n-preserved c = let old = c.loop-n.counts.items in let i = c.loop-n.invariant in elim c.if-marks-n-ne0.branch [
  | then-marks-n-ne0 w ↦ (let g = w.group.result in let is = ap (λ (v : _). v.items) w.counts-is ∙ w.add.ensures in (
    ap length is ∙ length-set old g (one_more (get_or old g 0)) ∙ i.0,
    subst (λ l. AreCounted c.args.factor c.args.marks.now l (c.loop-n.n + 1)) (sym is)
        (mark_counted c.args.factor c.args.marks.now old c.loop-n.n i.1 g (one_more (get_or old g 0)) w.group.ensures.value
        (let s = w.group.ensures.small in let l = i.0 in omega arith) (one_more_some (get_or old g 0)) (one_more_two (get_or old g 0))),
  ))
  | else-marks-n-ne0 w ↦ (let is = ap (λ (v : _). v.items) w.counts-is in (
    ap length is ∙ i.0,
    subst (λ l. AreCounted c.args.factor c.args.marks.now l (c.loop-n.n + 1)) (sym is) (zero_counted c.args.factor c.args.marks.now old c.loop-n.n i.1 (let f = w.if-marks-n-ne0.false in search rules)),
  ))
]

pub returns-clause-counted : goal.returns-clause-counted
returns-clause-counted c = subst (λ n. AreCounted c.args.factor c.args.marks.now c.loop-n.counts.items n) (let t = c.loop-n-test.false in let a = c.loop-n.auto.n-end in omega arith) c.loop-n.invariant.1
