use Rattle.std.proofs.Common.{length, ap, ◌∙◌, arith, length-append, append_assoc}
use Rattle.json_tape.specs.Document.{node_at}
use Rattle.json_tape.specs.Nodes.{children}
use Rattle.node_lists.specs.Nodelists.{nodes_of, children_between}
use Rattle.node_lists.proofs.Naming.{added_total}
use Rattle.node_lists.proofs.Below.{next_below}
use Rattle.node_lists.proofs.descendants.push_below.Goals as goal

pub loop-k-preserved : goal.loop-k-preserved
loop-k-preserved c =
    let d = c.args.doc.now in
    let i = c.loop-k.invariant in
    let p = c.push_children-k.ensures in
    let ns = children (node_at d c.loop-k.k) in
    let rest = children_between d c.push_children-k.result c.after-end.result in
    let next = next_below d c.loop-k.k c.push_children-k.result c.after-end.result c.loop-k-test.true p.past p.childless in
    let total = added_total d c.loop-k.out.items c.push_children-k.new.out.items ns p.added.same in
    let l = ap length next ∙ length-append ns rest in
    record {
      same = rw p.added.same (append_assoc (nodes_of d c.loop-k.out.items) ns rest ∙ rw (← next) i.same);
      sound = p.added.inside;
      room = omega (arith, i.room, l, total, p.capacity);
    }
