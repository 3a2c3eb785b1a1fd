use Rattle.std.proofs.Common.{rules}
use Rattle.std.proofs.lemmas.List.{length-reverse}
use Rattle.json_tape.specs.Document.{node_at}
use Rattle.json_tape.specs.Nodes.{elements}
use Rattle.tape_values.specs.Selection.{picked}
use Rattle.tape_values.specs.Places.{is_place}
use Rattle.node_lists.proofs.Turned.{turn_added}
use Rattle.node_lists.proofs.slices.picked_back.Goals as goal

pub returns : goal.returns
returns c =
    let ps = picked (is_place c.args.places.first c.args.places.end c.args.places.step) 0 (elements (node_at c.args.doc.now c.args.n.0)) in
    let h = turn_added c.args.doc.now c.args.out.now.items c.picked.new.out.items ps c.len-from.result (search rules) c.in_ok-picked.ensures.0 in
    (rw c.reverse_from.ensures h, rw (length-reverse ps) c.in_ok-picked.ensures.1)
