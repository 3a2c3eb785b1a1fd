use Rattle.std.proofs.Common.{◌≡◌, ◌++◌, drop, map}
use Rattle.std.specs.Prelude.{IsTrue}
use Rattle.path_grammar.specs.Tree.{exprs_of}
use Rattle.path_grammar.specs.View.{comparable_view, expr_view}
use Rattle.path_types.specs.Validity.{are_valid_exprs}
use Rattle.decisions.specs.Tree.{expr_of}
use Rattle.decisions.specs.Views.{test_view}
use Rattle.condition_reader.proofs.reading.+reading.Given as goal

abbrev pub invariant-read_all-loop-operand : goal.invariant-read_all-loop-operand
invariant-read_all-loop-operand l = record {
  same : map (λ t. expr_of (comparable_view l.side) (test_view t)) l.made.items ++ map expr_view (drop l.operand-index l.operands) ≡ map expr_view l.operands;
  valid : IsTrue (are_valid_exprs (exprs_of (map expr_view (drop l.operand-index l.operands))));
}
