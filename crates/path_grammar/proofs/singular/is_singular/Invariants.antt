use Rattle.std.proofs.Common.{◌≡◌, drop}
use Rattle.path_grammar.specs.Singular.{is_singular}
use Rattle.path_grammar.specs.View.{segments_view}
use Rattle.path_grammar.proofs.singular.is_singular.Given as goal

abbrev pub invariant-loop-segment : goal.invariant-loop-segment
invariant-loop-segment l = is_singular (segments_view (drop l.segment-index l.segments)) ≡ is_singular (segments_view l.segments)
