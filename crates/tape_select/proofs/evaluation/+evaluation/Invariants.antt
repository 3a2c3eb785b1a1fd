use Rattle.std.proofs.Common.{◌≡◌, ◌+◌, ◌-◌, ◌++◌, ◌∷◌, [], ◌||◌, ◌&&◌, drop, map}
use Rattle.std.specs.Prelude.{flat_map}
use Rattle.std.specs.Prelude.{filter as keep}
use Rattle.path_grammar.specs.Tree.{exprs_of, selectors_of}
use Rattle.json_tape.specs.Document.{node_at, seen, counting}
use Rattle.json_tape.specs.Nodes.{children}
use Rattle.node_lists.specs.Evaluation.{evaluated, selected, holds, some_hold, all_hold}
use Rattle.node_lists.specs.Nodelists.{nodes_of}
use Rattle.node_lists.specs.Charge.{total_of, charge_from, charge_expr, charge_exprs}
use Rattle.node_lists.specs.Extra.{extra_in, nodes_after, charge_after}
use Rattle.tape_select.specs.Memo.{Keeps}
use Rattle.node_lists.specs.Paying.{Inside}
use Rattle.query_plan.specs.Planned.{claims_of, query_of, trees, all_claims, condition_view, selection_view, stage_view}
use Rattle.query_plan.specs.Slots.{AreClaimed}
use Rattle.tape_select.proofs.evaluation.+evaluation.Given as goal

abbrev pub invariant-filtered-loop-child : goal.invariant-filtered-loop-child
invariant-filtered-loop-child l = record {
  same : nodes_of l.doc l.out.items ++ keep (holds (node_at l.doc 0) (condition_view l.condition).tree) (nodes_of l.doc l.child-iterator)
      ≡ nodes_of l.doc l.initial.out.items ++ keep (holds (node_at l.doc 0) (condition_view l.condition).tree) (children (node_at l.doc l.fn.n.0));
  paid : l.state.meter.left + total_of (charge_expr (node_at l.doc 0) (condition_view l.condition).tree) (children (node_at l.doc l.fn.n.0))
      ≡ l.initial.state.meter.left + total_of (charge_expr (node_at l.doc 0) (condition_view l.condition).tree) (nodes_of l.doc l.child-iterator);
  kept : Keeps l.doc (claims_of l.plan.stages.items) l.state;
  ahead : Inside l.doc l.child-iterator;
  sound : Inside l.doc l.out.items;
}

abbrev pub invariant-some_hold-loop-operand : goal.invariant-some_hold-loop-operand
invariant-some_hold-loop-operand l = record {
  same : (l.some || some_hold (node_at l.doc 0) (exprs_of (trees (map condition_view (drop l.operand-index l.operands)))) (node_at l.doc l.child.0))
      ≡ some_hold (node_at l.doc 0) (exprs_of (trees (map condition_view l.operands))) (node_at l.doc l.child.0);
  paid : l.state.meter.left + charge_exprs (node_at l.doc 0) (exprs_of (trees (map condition_view l.operands))) (node_at l.doc l.child.0)
      ≡ l.initial.state.meter.left + charge_exprs (node_at l.doc 0) (exprs_of (trees (map condition_view (drop l.operand-index l.operands)))) (node_at l.doc l.child.0);
  claimed : AreClaimed (claims_of l.plan.stages.items) (all_claims (map condition_view (drop l.operand-index l.operands)));
  kept : Keeps l.doc (claims_of l.plan.stages.items) l.state;
}

abbrev pub invariant-all_hold-loop-operand : goal.invariant-all_hold-loop-operand
invariant-all_hold-loop-operand l = record {
  same : (l.all && all_hold (node_at l.doc 0) (exprs_of (trees (map condition_view (drop l.operand-index l.operands)))) (node_at l.doc l.child.0))
      ≡ all_hold (node_at l.doc 0) (exprs_of (trees (map condition_view l.operands))) (node_at l.doc l.child.0);
  paid : l.state.meter.left + charge_exprs (node_at l.doc 0) (exprs_of (trees (map condition_view l.operands))) (node_at l.doc l.child.0)
      ≡ l.initial.state.meter.left + charge_exprs (node_at l.doc 0) (exprs_of (trees (map condition_view (drop l.operand-index l.operands)))) (node_at l.doc l.child.0);
  claimed : AreClaimed (claims_of l.plan.stages.items) (all_claims (map condition_view (drop l.operand-index l.operands)));
  kept : Keeps l.doc (claims_of l.plan.stages.items) l.state;
}

abbrev pub invariant-selected_from-loop-selection : goal.invariant-selected_from-loop-selection
invariant-selected_from-loop-selection l = record {
  same : nodes_of l.doc l.out.items ++ selected (node_at l.doc 0) (selectors_of (trees (map selection_view (drop l.selection-index l.selections)))) (node_at l.doc l.n.0)
      ≡ nodes_of l.doc l.initial.out.items ++ selected (node_at l.doc 0) (selectors_of (trees (map selection_view l.selections))) (node_at l.doc l.n.0);
  paid : l.state.meter.left + extra_in (node_at l.doc 0) (selectors_of (trees (map selection_view l.selections))) (node_at l.doc l.n.0)
      ≡ l.initial.state.meter.left + extra_in (node_at l.doc 0) (selectors_of (trees (map selection_view (drop l.selection-index l.selections)))) (node_at l.doc l.n.0);
  claimed : AreClaimed (claims_of l.plan.stages.items) (all_claims (map selection_view (drop l.selection-index l.selections)));
  kept : Keeps l.doc (claims_of l.plan.stages.items) l.state;
  sound : Inside l.doc l.out.items;
}

abbrev pub invariant-visited_each-loop-k : goal.invariant-visited_each-loop-k
invariant-visited_each-loop-k l = record {
  same : nodes_of l.doc l.out.items ++ flat_map (selected (node_at l.doc 0) (selectors_of (trees (map selection_view l.selections)))) (seen l.doc (counting l.k (l.end - l.k)))
      ≡ nodes_of l.doc l.initial.out.items ++ flat_map (selected (node_at l.doc 0) (selectors_of (trees (map selection_view l.selections)))) (seen l.doc (counting l.fn.n.0 (l.end - l.fn.n.0)));
  paid : l.state.meter.left + total_of (extra_in (node_at l.doc 0) (selectors_of (trees (map selection_view l.selections)))) (seen l.doc (counting l.fn.n.0 (l.end - l.fn.n.0)))
      ≡ l.initial.state.meter.left + total_of (extra_in (node_at l.doc 0) (selectors_of (trees (map selection_view l.selections)))) (seen l.doc (counting l.k (l.end - l.k)));
  kept : Keeps l.doc (claims_of l.plan.stages.items) l.state;
  sound : Inside l.doc l.out.items;
}

abbrev pub invariant-after_each-loop-n : goal.invariant-after_each-loop-n
invariant-after_each-loop-n l = record {
  same : nodes_of l.doc l.out.items ++ nodes_after (node_at l.doc 0) (stage_view l.stage).tree (nodes_of l.doc (drop l.n-index l.input))
      ≡ nodes_after (node_at l.doc 0) (stage_view l.stage).tree (nodes_of l.doc l.input);
  paid : l.state.meter.left + charge_after (node_at l.doc 0) (stage_view l.stage).tree (nodes_of l.doc l.input)
      ≡ l.initial.state.meter.left + charge_after (node_at l.doc 0) (stage_view l.stage).tree (nodes_of l.doc (drop l.n-index l.input));
  kept : Keeps l.doc (claims_of l.plan.stages.items) l.state;
  sound : Inside l.doc l.out.items;
}

abbrev pub invariant-selected_in_turn-loop-stage : goal.invariant-selected_in_turn-loop-stage
invariant-selected_in_turn-loop-stage l = record {
  same : evaluated (node_at l.doc 0) (query_of (drop l.stage-index l.stages)) (nodes_of l.doc l.nodes.items)
      ≡ evaluated (node_at l.doc 0) (query_of l.stages) (node_at l.doc l.fn.n.0 ∷ []);
  paid : l.state.meter.left + charge_from (node_at l.doc 0) (query_of l.stages) (node_at l.doc l.fn.n.0 ∷ [])
      ≡ l.initial.state.meter.left + charge_from (node_at l.doc 0) (query_of (drop l.stage-index l.stages)) (nodes_of l.doc l.nodes.items);
  claimed : AreClaimed (claims_of l.plan.stages.items) (claims_of (drop l.stage-index l.stages));
  kept : Keeps l.doc (claims_of l.plan.stages.items) l.state;
  sound : Inside l.doc l.nodes.items;
}
