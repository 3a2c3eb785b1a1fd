use Rattle.std.proofs.Common.{◌≡◌, ◌++◌, drop, map}
use Rattle.decisions.specs.Tree.{tests_of}
use Rattle.decisions.specs.Truth.{all_literals}
use Rattle.decisions.specs.Views.{constant_view, test_view}
use Rattle.decisions.proofs.gathering.+gathering.Given as goal

abbrev pub invariant-gather_all-loop-operand : goal.invariant-gather_all-loop-operand
invariant-gather_all-loop-operand l =
    map constant_view l.found.items ++ all_literals (tests_of (map test_view (drop l.operand-index l.operands))) ≡ map constant_view l.initial.found.items ++ all_literals (tests_of (map test_view l.operands))
