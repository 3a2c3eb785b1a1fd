use Rattle.std.proofs.Common.{rules}
use Rattle.json_tape.specs.Document.{node_at}
use Rattle.json_tape.specs.Nodes.{elements}
use Rattle.node_lists.proofs.Adding.{add_more}
use Rattle.node_lists.proofs.Picking.{picked_stride}
use Rattle.node_lists.proofs.slices.picked_by_place.Goals as goal

pub loop-wanted-preserved : goal.loop-wanted-preserved
loop-wanted-preserved c =
    let d = c.args.doc.now in
    let places = c.args.places in
    let stride = picked_stride c.loop-wanted.wanted places.end places.step (node_at d c.in-Some.found.0) (elements (node_at d c.args.n.0)) c.in-Some.ensures.node c.loop-wanted-test.true c.requires.end_fits c.requires.step in
    search (rules, stride, add_more)
