use Rattle.std.proofs.Common.{◌≡◌, ◌+◌, ◌-◌, ◌++◌, length, drop}
use Rattle.json_tape.specs.Document.{node_at}
use Rattle.json_tape.specs.Nodes.{elements}
use Rattle.tape_values.specs.Selection.{picked}
use Rattle.tape_values.specs.Places.{is_place}
use Rattle.node_lists.specs.Nodelists.{nodes_of}
use Rattle.node_lists.specs.Paying.{Inside}
use Rattle.node_lists.proofs.slices.picked_by_place.Given as goal

abbrev pub invariant-loop-wanted : goal.invariant-loop-wanted
invariant-loop-wanted l =
    let es = elements (node_at l.doc l.n.0) in
    record {
      same : nodes_of l.doc l.out.items ++ picked (is_place l.wanted l.places.end l.places.step) l.wanted (drop l.wanted es) ≡ nodes_of l.doc l.initial.out.items ++ picked (is_place l.places.first l.places.end l.places.step) 0 es;
      paid : l.meter.left + length (picked (is_place l.places.first l.places.end l.places.step) 0 es) ≡ l.initial.meter.left + length (picked (is_place l.wanted l.places.end l.places.step) l.wanted (drop l.wanted es));
      sound : Inside l.doc l.out.items;
    }

abbrev pub decreases-loop-wanted : goal.decreases-loop-wanted
decreases-loop-wanted l = l.places.end - l.wanted
