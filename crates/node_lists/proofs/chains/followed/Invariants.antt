use Rattle.std.proofs.Common.{◌≡◌, ◌+◌, ◌<◌, ◌∷◌, [], drop}
use Rattle.json_tape.specs.Document.{node_at, count}
use Rattle.node_lists.specs.Evaluation.{evaluated}
use Rattle.node_lists.specs.Charge.{charge_from}
use Rattle.node_lists.specs.Links.{links_view}
use Rattle.node_lists.proofs.chains.followed.Given as goal

abbrev pub invariant-loop-link : goal.invariant-loop-link
invariant-loop-link l = record {
  same : evaluated (node_at l.doc 0) (links_view (drop l.link-index l.links)) (node_at l.doc l.node.0 ∷ []) ≡ evaluated (node_at l.doc 0) (links_view l.links) (node_at l.doc l.fn.n.0 ∷ []);
  paid : l.meter.left + charge_from (node_at l.doc 0) (links_view l.links) (node_at l.doc l.fn.n.0 ∷ []) ≡ l.initial.meter.left + charge_from (node_at l.doc 0) (links_view (drop l.link-index l.links)) (node_at l.doc l.node.0 ∷ []);
  inside : l.node.0 < count l.doc;
}
