use Rattle.std.proofs.Common.{drop, map}
use Rattle.path_grammar.specs.Tree.{selectors_of}
use Rattle.query_plan.specs.Planned.{selection_view, trees}
use Rattle.query_machine.specs.Cursors.{AreUnasked}
use Rattle.query_machine.proofs.placing.are_unasked.Given as goal

abbrev pub invariant-loop-selection : goal.invariant-loop-selection
invariant-loop-selection l = AreUnasked (selectors_of (trees (map selection_view (drop l.selection-index l.selections)))) → AreUnasked (selectors_of (trees (map selection_view l.selections)))
