use Rattle.std.proofs.Common.{◌≡◌, ◌+◌, ◌-◌, ◌≤◌, ◌++◌, length}
use Rattle.json_tape.specs.Document.{following, IsIn}
use Rattle.tape_values.specs.Selection.{picked}
use Rattle.tape_values.specs.Places.{is_place}
use Rattle.node_lists.specs.Nodelists.{nodes_of}
use Rattle.node_lists.specs.Paying.{Inside}
use Rattle.node_lists.proofs.slices.picked_by_walking.Given as goal

abbrev pub invariant-loop-wanted : goal.invariant-loop-wanted
invariant-loop-wanted l = record {
  same : nodes_of l.doc l.out.items ++ picked (is_place l.wanted l.places.end l.places.step) l.i (following l.doc l.child) ≡ nodes_of l.doc l.initial.out.items ++ picked (is_place l.initial.wanted l.places.end l.places.step) l.initial.i (following l.doc l.initial.child);
  paid : l.meter.left + length (picked (is_place l.initial.wanted l.places.end l.places.step) l.initial.i (following l.doc l.initial.child)) ≡ l.initial.meter.left + length (picked (is_place l.wanted l.places.end l.places.step) l.i (following l.doc l.child));
  before : l.i ≤ l.wanted;
  inside : IsIn l.doc l.child;
  sound : Inside l.doc l.out.items;
}

abbrev pub decreases-loop-wanted : goal.decreases-loop-wanted
decreases-loop-wanted l = l.places.end - l.i
