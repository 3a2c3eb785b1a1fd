use Rattle.std.proofs.Common.{◌∙◌}
use Rattle.node_lists.proofs.Adding.{draws_one}
use Rattle.node_lists.proofs.nodes.push_children.Goals as goal

pub loop-child-preserved : goal.loop-child-preserved
loop-child-preserved c =
    let i = c.loop-child.invariant in
    let p = c.push_reserved.ensures in
    record {
      draws = rw (p.len, p.capacity) (draws_one c.args.doc.now _ c.loop-child.out.items c.loop-child.child-iterator c.next.new.self c.push_reserved.new.self.items c.in-Some.child _ _ i.draws c.in-Some.ensures.steps p.items);
      capacity = p.capacity ∙ i.capacity;
    }
