use Rattle.std.proofs.Common.{◌≡◌, ◌+◌, ◌-◌, ◌<◌, ◌≤◌, ◌∷◌, [], length}
use Rattle.json_tape.specs.Document.{count, node_at}
use Rattle.node_lists.specs.Charge.{charge_from}
use Rattle.node_lists.specs.Evaluation.{evaluated}
use Rattle.query_machine.specs.Stacks.{after, segments_in}
use Rattle.query_machine.proofs.placing.followed_on.Given as goal

abbrev pub invariant-loop-at : goal.invariant-loop-at
invariant-loop-at l = record {
  number : l.at < length l.stages;
  inside : l.node.0 < count l.doc;
  same : evaluated (node_at l.doc 0) (after l.doc (segments_in l.stages) l.at) (node_at l.doc l.node.0 ∷ []) ≡ evaluated (node_at l.doc 0) (after l.doc (segments_in l.stages) l.fn.number) (node_at l.doc l.fn.n.0 ∷ []);
  paid : l.meter.left + charge_from (node_at l.doc 0) (after l.doc (segments_in l.stages) l.fn.number) (node_at l.doc l.fn.n.0 ∷ []) ≡ l.fn.meter.left + charge_from (node_at l.doc 0) (after l.doc (segments_in l.stages) l.at) (node_at l.doc l.node.0 ∷ []);
  little : l.least ≤ l.fn.meter.left → l.least ≤ l.meter.left + 1;
  still : l.fn.meter.left < l.least → l.meter.left ≡ l.fn.meter.left;
}

abbrev pub decreases-loop-at : goal.decreases-loop-at
decreases-loop-at l = length l.stages - l.at
