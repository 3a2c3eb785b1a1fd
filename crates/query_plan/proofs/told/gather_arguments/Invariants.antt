use Rattle.std.proofs.Common.{◌≡◌, ◌++◌, drop, map}
use Rattle.path_grammar.specs.Tree.{arguments_of}
use Rattle.path_grammar.specs.View.{argument_view}
use Rattle.decisions.specs.Views.{constant_view}
use Rattle.decisions.specs.Decided.{lengths}
use Rattle.query_plan.proofs.told.gather_arguments.Given as goal

abbrev pub invariant-loop-argument : goal.invariant-loop-argument
invariant-loop-argument l = map constant_view l.found.items ++ lengths (arguments_of (map argument_view (drop l.argument-index l.arguments))) ≡ map constant_view l.fn.found.items ++ lengths (arguments_of (map argument_view l.arguments))
