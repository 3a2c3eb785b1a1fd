use Rattle.std.proofs.Common.{◌≡◌, ◌++◌, drop, length, map}
use Rattle.path_grammar.specs.View.{segment_view}
use Rattle.path_meaning.specs.Links.{link_view}
use Rattle.query_plan.proofs.making.links.Given as goal

abbrev pub invariant-loop-segment : goal.invariant-loop-segment
invariant-loop-segment l = record {
  same : map link_view l.made.items ++ map segment_view (drop l.segment-index l.segments) ≡ map segment_view l.segments;
  each : length l.made.items ≡ l.segment-index;
}
