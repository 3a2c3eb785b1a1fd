use Rattle.std.proofs.Common.{◌≡◌, ◌++◌, drop, map}
use Rattle.std.specs.Prelude.{IsTrue}
use Rattle.path_grammar.specs.Tree.{exprs_of}
use Rattle.path_grammar.specs.View.{comparable_view, expr_view}
use Rattle.path_types.specs.Validity.{are_valid_exprs}
use Rattle.decisions.specs.Tree.{expr_of}
use Rattle.condition_reader.specs.Turns.{dealt}
use Rattle.decisions.specs.Views.{test_view}
use Rattle.condition_reader.proofs.reading.read_group.Given as goal

abbrev pub invariant-loop-i : goal.invariant-loop-i
invariant-loop-i l = record {
  same : map (λ t. expr_of (comparable_view l.side) (test_view t)) l.made.items ++ map expr_view (dealt (drop l.i l.numbers) l.number (drop l.i l.operands)) ≡ map expr_view (dealt l.numbers l.number l.operands);
  valid : IsTrue (are_valid_exprs (exprs_of (map expr_view (drop l.i l.operands))));
}
