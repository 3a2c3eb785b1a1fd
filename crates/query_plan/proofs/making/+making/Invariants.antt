use Rattle.std.proofs.Common.{◌≡◌, ◌++◌, drop, map, Some}
use Rattle.std.specs.Prelude.{IsTrue}
use Rattle.path_grammar.specs.Tree.{exprs_of}
use Rattle.path_grammar.specs.View.{segments_view, selectors_view, segment_view, selector_view, expr_view}
use Rattle.path_types.specs.Validity.{is_valid, are_valid, are_valid_exprs}
use Rattle.query_plan.specs.Planned.{trees, operands_of, claims_of, all_claims, numbered, selection_view, stage_view, condition_view}
use Rattle.condition_reader.specs.Turns.{dealt}
use Rattle.query_plan.proofs.Joining.{groups_below}
use Rattle.query_plan.proofs.making.+making.Given as goal

abbrev pub invariant-selections-loop-selector : goal.invariant-selections-loop-selector
invariant-selections-loop-selector l = record {
  same : trees (map selection_view l.made.items) ++ map selector_view (drop l.selector-index l.selectors) ≡ map selector_view l.selectors;
  numbered : numbered (all_claims (map selection_view l.made.items)) l.initial.next ≡ Some l.next;
  valid : IsTrue (are_valid (selectors_view (drop l.selector-index l.selectors)));
}

abbrev pub invariant-stages-loop-i : goal.invariant-stages-loop-i
invariant-stages-loop-i l = record {
  same : trees (map stage_view l.made.items) ++ map segment_view (drop l.i l.segments) ≡ map segment_view (drop l.fn.from l.segments);
  numbered : numbered (claims_of l.made.items) l.initial.next ≡ Some l.next;
  valid : IsTrue (is_valid (segments_view (drop l.i l.segments)));
}

abbrev pub invariant-conditions-loop-operand : goal.invariant-conditions-loop-operand
invariant-conditions-loop-operand l = record {
  same : trees (map condition_view l.made.items) ++ map expr_view (drop l.operand-index l.operands) ≡ map expr_view l.operands;
  numbered : numbered (all_claims (map condition_view l.made.items)) l.initial.next ≡ Some l.next;
  valid : IsTrue (are_valid_exprs (exprs_of (map expr_view (drop l.operand-index l.operands))));
}

abbrev pub invariant-parts-loop-number : goal.invariant-parts-loop-number
invariant-parts-loop-number l = record {
  same : map (operands_of l.is_any) (trees (map condition_view l.made.items)) ≡ groups_below l.numbers l.operands l.number;
  numbered : numbered (all_claims (map condition_view l.made.items)) l.initial.next ≡ Some l.next;
}

abbrev pub invariant-group-loop-i : goal.invariant-group-loop-i
invariant-group-loop-i l = record {
  same : trees (map condition_view l.made.items) ++ map expr_view (dealt (drop l.i l.numbers) l.number (drop l.i l.operands)) ≡ map expr_view (dealt l.numbers l.number l.operands);
  numbered : numbered (all_claims (map condition_view l.made.items)) l.initial.next ≡ Some l.next;
  valid : IsTrue (are_valid_exprs (exprs_of (map expr_view (drop l.i l.operands))));
}
