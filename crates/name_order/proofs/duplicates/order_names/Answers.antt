use Rattle.json_text.proofs.Names.{◌≡◌, ◌∙◌, length, get_or, refl, sym, subst, true, arith, IsSorted, nat_cmp, repeats, meanings}
use Rattle.json_text.proofs.Names.{entry_in, nothing_there}
use Rattle.name_order.proofs.TwinNames.{object_at, duplicate_found, duplicate_none, one_more}
use Rattle.name_order.proofs.Runs.{members_are}
use Rattle.name_order.proofs.SuspectsLeft.{kept_none, left_all, left_behind, left_over, none_on, kept_on, later_is_more}
use Rattle.name_order.proofs.duplicates.order_names.Goals.{then-is_left+in_ok-found+else-found, else-is_left}
use Rattle.name_order.proofs.duplicates.order_names.Goals as goal

pub loop-n-init : goal.loop-n-init
loop-n-init c = grind (arith, left_all, kept_none)

pub repeats_at-requires-clause-object : goal.repeats_at-requires-clause-object
repeats_at-requires-clause-object c = let n = get_or c.deref-n-items.result.now c.loop-n.n-index 0 in let here = c.if-is_left.ensures.left refl in
    object_at c.args.text.now c.args.tape.now c.requires.spelt c.requires.stands n nothing_there here.1 (members_are (entry_in c.args.tape.now n) (let m = here.2 in omega (arith, m))).0

pub repeats_at-requires-clause-kept : goal.repeats_at-requires-clause-kept
repeats_at-requires-clause-kept c = let numbers = c.deref-n-items.result.now in
    let sorted = subst (IsSorted nat_cmp) (sym c.deref-n-items.ensures.value) c.sort_unstable.ensures.sorted in
    kept_on c.args.text.now c.args.tape.now numbers c.loop-n.n-index c.loop-n.from c.loop-n.invariant.1 (get_or numbers c.loop-n.n-index 0) (c.if-is_left.ensures.left refl).0
    (later_is_more numbers sorted c.loop-n.n-index) _ c.loop-n.invariant.3

pub returns-then-found : goal.returns-then-found
returns-then-found c = let n = get_or c.deref-n-items.result.now c.loop-n.n-index 0 in let here = c.if-is_left.ensures.left refl in
    let o = object_at c.args.text.now c.args.tape.now c.requires.spelt c.requires.stands n nothing_there here.1 (members_are (entry_in c.args.tape.now n) (let m = here.2 in omega (arith, m))).0 in
    let r : repeats (meanings o.0) ≡ true = sym (c.in_ok-found.ensures.found o.0 o.1) ∙ c.if-found.true in
    duplicate_found c.args.text.now c.args.tape.now c.requires.spelt c.requires.stands c.requires.paired n o.0 o.1 r

pub loop-n-preserved : goal.loop-n-preserved
loop-n-preserved c =
    let text = c.args.text.now in let tape = c.args.tape.now in let numbers = c.deref-n-items.result.now in let i = c.loop-n.n-index in
    let n = get_or numbers i 0 in let sorted = subst (IsSorted nat_cmp) (sym c.deref-n-items.ensures.value) c.sort_unstable.ensures.sorted in
    let left = c.loop-n.invariant.1 in elim c.if-is_left.branch [
      | then-is_left+in_ok-found+else-found w ↦ (
          let here = w.if-is_left.ensures.left refl in let inside = here.1 in rw (w.from-is, w.order-is) (
            omega (arith, inside),
            left_behind text tape numbers i c.loop-n.from left here.0,
            one_more text tape n (none_on text tape numbers i c.loop-n.from left n here.0 (later_is_more numbers sorted i) c.loop-n.invariant.2) (λ ms o. sym (w.in_ok-found.ensures.found ms o) ∙ w.if-found.false),
            w.in_ok-found.ensures.kept w.if-found.false,
          ))
      | else-is_left w ↦ rw (w.from-is, w.order-is) (
        c.loop-n.invariant.0,
        left_over text tape numbers i c.loop-n.from left c.requires.spelt c.requires.stands (w.if-is_left.ensures.passed refl),
        c.loop-n.invariant.2,
        c.loop-n.invariant.3,
      )
    ]

pub returns : goal.returns
returns c = let text = c.args.text.now in let tape = c.args.tape.now in let numbers = c.deref-n-items.result.now in let t = c.loop-n-test.false in
    let all = none_on text tape numbers c.loop-n.n-index c.loop-n.from c.loop-n.invariant.1 (length tape) c.loop-n.invariant.0 (λ j k l. absurd (omega (arith, t, k, l))) c.loop-n.invariant.2 in (
      (λ x. duplicate_none text tape c.requires.spelt c.requires.stands (λ n ms h o. all n ms h o) x),
      rw c.shrink.ensures (kept_on text tape numbers c.loop-n.n-index c.loop-n.from c.loop-n.invariant.1 (length tape) c.loop-n.invariant.0 (λ j k l. absurd (omega (arith, t, k, l))) _ c.loop-n.invariant.3),
    )
