use Rattle.std.proofs.Common.{◌≡◌, ◌+◌, drop, map}
use Rattle.decisions.specs.Tree.{tests_of, all_uses}
use Rattle.decisions.specs.Views.{test_view}
use Rattle.decisions.proofs.counting.+counting.Given as goal

abbrev pub invariant-uses_of_all-loop-operand : goal.invariant-uses_of_all-loop-operand
invariant-uses_of_all-loop-operand l = l.sum + all_uses (tests_of (map test_view (drop l.operand-index l.operands))) ≡ all_uses (tests_of (map test_view l.operands))
