use Rattle.std.proofs.Common.{◌≡◌, ◌||◌, ◌&&◌, drop, map}
use Rattle.decisions.specs.Tree.{tests_of}
use Rattle.decisions.specs.Truth.{versus, some_true, all_true}
use Rattle.decisions.specs.Views.{test_view}
use Rattle.decisions.proofs.telling.+telling.Given as goal

abbrev pub invariant-some_hold-loop-operand : goal.invariant-some_hold-loop-operand
invariant-some_hold-loop-operand g l =
    (l.some || some_true (versus (g.S.ComparedSide.value l.side)) l.relation (tests_of (map test_view (drop l.operand-index l.operands)))) ≡ some_true (versus (g.S.ComparedSide.value l.side)) l.relation (tests_of (map test_view l.operands))

abbrev pub invariant-all_hold-loop-operand : goal.invariant-all_hold-loop-operand
invariant-all_hold-loop-operand g l =
    (l.all && all_true (versus (g.S.ComparedSide.value l.side)) l.relation (tests_of (map test_view (drop l.operand-index l.operands)))) ≡ all_true (versus (g.S.ComparedSide.value l.side)) l.relation (tests_of (map test_view l.operands))
