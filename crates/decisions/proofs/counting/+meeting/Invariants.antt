use Rattle.std.proofs.Common.{◌≡◌, ◌||◌, drop, map}
use Rattle.decisions.specs.Tree.{tests_of, some_meet}
use Rattle.decisions.specs.Views.{test_view}
use Rattle.decisions.proofs.counting.+meeting.Given as goal

abbrev pub invariant-some_meet-loop-operand : goal.invariant-some_meet-loop-operand
invariant-some_meet-loop-operand l = (l.some || some_meet (tests_of (map test_view (drop l.operand-index l.operands)))) ≡ some_meet (tests_of (map test_view l.operands))
