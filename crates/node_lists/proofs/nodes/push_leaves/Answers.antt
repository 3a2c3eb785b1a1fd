use Rattle.std.proofs.Common.{◌∙◌, sym, arith}
use Rattle.node_lists.proofs.Adding.{drawn_inside, draws_one}
use Rattle.node_lists.proofs.Below.{one_passed, more_passed}
use Rattle.node_lists.proofs.nodes.push_leaves.Goals as goal

pub loop-next-preserved : goal.loop-next-preserved
loop-next-preserved c =
    let d = c.args.doc.now in
    let i = c.loop-next.invariant in
    let p = c.push_reserved.ensures in
    let past = c.after-after.ensures.past in
    let same = c.if-child-next.false in
    let one = one_passed d c.in-Some.child.0 c.after-after.result (sym c.is_container-holds_others.ensures ∙ c.if-holds_others.false) c.after-after.ensures.nodes in
    record {
      draws = rw (p.len, p.capacity) (draws_one d _ c.loop-next.out.items c.loop-next.left c.next.new.self c.push_reserved.new.self.items c.in-Some.child _ _ i.draws c.in-Some.ensures.steps p.items);
      capacity = p.capacity ∙ i.capacity;
      past = omega (arith, i.past, past, same);
      childless = more_passed d c.args.from c.loop-next.next c.after-after.result i.past (omega (arith, past, same)) i.childless (rw (← same) one);
    }

pub returns-then-child-next-clause-ahead : goal.returns-then-child-next-clause-ahead
returns-then-child-next-clause-ahead c = (drawn_inside c.args.doc.now c.loop-next.left c.in-Some.child c.next.new.self c.in-Some.ensures.steps c.loop-next.invariant.draws.ahead).1
