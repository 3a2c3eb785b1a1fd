-- The condition that a test stands for: each level once, with what is inside already seen.
use Rattle.std.specs.Prelude.{Option, Some}
use Rattle.path_grammar.specs.Tree.{Literal}
use Rattle.path_grammar.specs.View.{literal_view}
use Rattle.path_meaning.specs.Comparison.{Value, literal_value}
use Rattle.decisions.specs.Tree.{Tested, any, each, negated, value, against, two, present, itself, rooted, tests_of}
use Rattle.decisions.specs.declared.test.Test.TheOpen.{Test-F}
use Rattle.decisions.specs.declared.test.Test.{Test, fold-Test}
use Rattle.decisions.specs.declared.test.Constant.{Constant}

abbrev pub constant_view : Constant → Literal
constant_view c = literal_view c.literal

abbrev pub constant_value : Constant → Option Value
constant_value c = Some (literal_value (constant_view c))

abbrev pub test_step : Test-F Tested → Tested
test_step (Test-F.Any v) = any (tests_of v.items)
test_step (Test-F.Each v) = each (tests_of v.items)
test_step (Test-F.Not b) = negated b.value
test_step (Test-F.Value op l) = value op (constant_view l)
test_step (Test-F.Against l op) = against (constant_view l) op
test_step (Test-F.Literals l op m) = two (constant_view l) op (constant_view m)
test_step (Test-F.Present from_root) = present from_root
test_step (Test-F.Itself from_root op) = itself from_root op
test_step (Test-F.Rooted turned op) = rooted turned op

abbrev pub test_view : Test → Tested
test_view = fold-Test Tested test_step
