use Rattle.std.proofs.Common.{◌≡◌, drop, map}
use Rattle.path_grammar.specs.Tree.{exprs_of}
use Rattle.path_grammar.specs.View.{segments_view, selectors_view, expr_view}
use Rattle.path_types.specs.Validity.{is_valid, are_valid, are_valid_exprs}
use Rattle.path_types.proofs.valid.+valid.Given as goal

abbrev pub invariant-are_exprs-loop-operand : goal.invariant-are_exprs-loop-operand
invariant-are_exprs-loop-operand l = are_valid_exprs (exprs_of (map expr_view (drop l.operand-index l.operands))) ≡ are_valid_exprs (exprs_of (map expr_view l.operands))

abbrev pub invariant-are_segments-loop-segment : goal.invariant-are_segments-loop-segment
invariant-are_segments-loop-segment l = is_valid (segments_view (drop l.segment-index l.segments)) ≡ is_valid (segments_view l.segments)

abbrev pub invariant-are_selectors-loop-selector : goal.invariant-are_selectors-loop-selector
invariant-are_selectors-loop-selector l = are_valid (selectors_view (drop l.selector-index l.selectors)) ≡ are_valid (selectors_view l.selectors)
