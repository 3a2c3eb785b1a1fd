use Rattle.std.proofs.Common.{◌+◌, ◌≤◌, drop, map}
use Rattle.json_tape.specs.Document.{node_at}
use Rattle.path_grammar.specs.Tree.{exprs_of}
use Rattle.node_lists.specs.Charge.{charge_exprs}
use Rattle.query_plan.specs.Planned.{trees, claims_of, all_claims, condition_view}
use Rattle.query_plan.specs.Slots.{AreClaimed}
use Rattle.tape_select.proofs.awaiting.+awaiting.Given as goal

abbrev pub invariant-of_operands-loop-operand : goal.invariant-of_operands-loop-operand
invariant-of_operands-loop-operand l = record {
  within : l.paid + charge_exprs (node_at l.doc 0) (exprs_of (trees (map condition_view (drop l.operand-index l.operands)))) (node_at l.doc l.child.0)
      ≤ charge_exprs (node_at l.doc 0) (exprs_of (trees (map condition_view l.operands))) (node_at l.doc l.child.0);
  claimed : AreClaimed (claims_of l.plan.stages.items) (all_claims (map condition_view (drop l.operand-index l.operands)));
}
