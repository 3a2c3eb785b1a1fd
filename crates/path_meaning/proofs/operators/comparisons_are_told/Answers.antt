use Rattle.std.proofs.Common.{refl}
use Rattle.path_grammar.specs.declared.ast.Op.TheVariants.{Eq, Ne, Le, Ge, Lt, Gt}
use Rattle.path_meaning.specs.Comparison.{TellsComparisons}
use Rattle.path_meaning.proofs.operators.comparisons_are_told.Goals as goal

each : TellsComparisons
each Eq a b = refl
each Ne a b = refl
each Lt a b = refl
each Gt a b = refl
each Le a b = refl
each Ge a b = refl

pub returns : goal.returns
returns c = each
