use Rattle.std.proofs.Common.{◌≡◌, ◌++◌, ◌&&◌, drop, map}
use Rattle.std.specs.Prelude.{IsTrue}
use Rattle.path_grammar.specs.Tree.{exprs_of}
use Rattle.path_grammar.specs.View.{expr_view}
use Rattle.path_types.specs.Validity.{are_valid_exprs}
use Rattle.condition_reader.specs.Turns.{dealt}
use Rattle.decisions.specs.Views.{constant_view}
use Rattle.decisions.specs.Decided.{are_told, all_literals}
use Rattle.query_plan.proofs.told.gather_group.Given as goal

abbrev pub invariant-loop-i : goal.invariant-loop-i
invariant-loop-i l = record {
  told : (l.all && are_told l.is_rooted (exprs_of (map expr_view (dealt (drop l.i l.numbers) l.number (drop l.i l.operands))))) ≡ are_told l.is_rooted (exprs_of (map expr_view (dealt l.numbers l.number l.operands)));
  same : map constant_view l.found.items ++ all_literals (exprs_of (map expr_view (dealt (drop l.i l.numbers) l.number (drop l.i l.operands)))) ≡ map constant_view l.fn.found.items ++ all_literals (exprs_of (map expr_view (dealt l.numbers l.number l.operands)));
  valid : IsTrue (are_valid_exprs (exprs_of (map expr_view (drop l.i l.operands))));
}
