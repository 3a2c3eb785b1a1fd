use Rattle.std.proofs.Common.{◌≡◌, ◌++◌, drop, map}
use Rattle.std.specs.Prelude.{IsTrue}
use Rattle.path_grammar.specs.Tree.{exprs_of}
use Rattle.path_grammar.specs.View.{expr_view}
use Rattle.path_types.specs.Validity.{are_valid_exprs}
use Rattle.decisions.specs.Views.{constant_view}
use Rattle.decisions.specs.Decided.{all_literals}
use Rattle.query_plan.proofs.told.+gathering.Given as goal

abbrev pub invariant-gather_all-loop-operand : goal.invariant-gather_all-loop-operand
invariant-gather_all-loop-operand l = record {
  same : map constant_view l.found.items ++ all_literals (exprs_of (map expr_view (drop l.operand-index l.operands))) ≡ map constant_view l.initial.found.items ++ all_literals (exprs_of (map expr_view l.operands));
  valid : IsTrue (are_valid_exprs (exprs_of (map expr_view (drop l.operand-index l.operands))));
}
