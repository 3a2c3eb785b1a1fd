use Rattle.std.proofs.Common.{◌≡◌, ◌&&◌, drop, map}
use Rattle.path_grammar.specs.Tree.{arguments_of}
use Rattle.path_grammar.specs.View.{argument_view}
use Rattle.decisions.specs.Decided.{are_free}
use Rattle.query_plan.proofs.told.+free_calls.Given as goal

abbrev pub invariant-are_free-loop-argument : goal.invariant-are_free-loop-argument
invariant-are_free-loop-argument l = (l.all && are_free (arguments_of (map argument_view (drop l.argument-index l.arguments)))) ≡ are_free (arguments_of (map argument_view l.arguments))
