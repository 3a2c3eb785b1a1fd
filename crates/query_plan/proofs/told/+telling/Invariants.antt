use Rattle.std.proofs.Common.{◌≡◌, ◌&&◌, drop, map}
use Rattle.path_grammar.specs.Tree.{exprs_of}
use Rattle.path_grammar.specs.View.{expr_view}
use Rattle.decisions.specs.Decided.{are_told}
use Rattle.query_plan.proofs.told.+telling.Given as goal

abbrev pub invariant-are_told-loop-operand : goal.invariant-are_told-loop-operand
invariant-are_told-loop-operand l = (l.all && are_told l.is_rooted (exprs_of (map expr_view (drop l.operand-index l.operands)))) ≡ are_told l.is_rooted (exprs_of (map expr_view l.operands))
