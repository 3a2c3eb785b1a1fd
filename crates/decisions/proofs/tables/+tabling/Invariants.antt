use Rattle.std.proofs.Common.{◌≡◌, ℕ, ◌+◌, ◌*◌, ◌<◌, ◌||◌, ◌&&◌, false, length, get_or, drop, map}
use Rattle.decisions.specs.Tree.{tests_of}
use Rattle.decisions.specs.Places.{from_place}
use Rattle.decisions.specs.Truth.{some_true, all_true}
use Rattle.decisions.specs.Views.{constant_value, test_view}
use Rattle.decisions.proofs.tables.+tabling.Given as goal

abbrev pub invariant-some_table-loop-operand : goal.invariant-some_table-loop-operand
invariant-some_table-loop-operand l = record {
  sized : length l.cells.items ≡ 2 * length l.literals + 1;
  right : (p : ℕ) → p < length l.cells.items → (get_or l.cells.items p false || some_true (from_place (map constant_value l.literals) l.kind p) l.relation (tests_of (map test_view (drop l.operand-index l.operands)))) ≡ some_true (from_place (map constant_value l.literals) l.kind p) l.relation (tests_of (map test_view l.operands));
}

abbrev pub invariant-all_table-loop-operand : goal.invariant-all_table-loop-operand
invariant-all_table-loop-operand l = record {
  sized : length l.cells.items ≡ 2 * length l.literals + 1;
  right : (p : ℕ) → p < length l.cells.items → (get_or l.cells.items p false && all_true (from_place (map constant_value l.literals) l.kind p) l.relation (tests_of (map test_view (drop l.operand-index l.operands)))) ≡ all_true (from_place (map constant_value l.literals) l.kind p) l.relation (tests_of (map test_view l.operands));
}
