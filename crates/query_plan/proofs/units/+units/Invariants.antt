use Rattle.std.proofs.Common.{◌≡◌, ◌+◌, drop, map}
use Rattle.json_text.specs.Nodes.{Node}
use Rattle.path_grammar.specs.Tree.{exprs_of}
use Rattle.path_meaning.specs.Charge.{charge_exprs}
use Rattle.query_plan.specs.Planned.{trees, condition_view}
use Rattle.query_plan.proofs.units.+units.Given as goal

abbrev pub invariant-units_of_all-loop-operand : goal.invariant-units_of_all-loop-operand
invariant-units_of_all-loop-operand l =
    (root n : Node) → l.sum + charge_exprs root (exprs_of (trees (map condition_view (drop l.operand-index l.operands)))) n
    ≡ charge_exprs root (exprs_of (trees (map condition_view l.operands))) n
