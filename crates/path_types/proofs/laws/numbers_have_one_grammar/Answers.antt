use Rattle.path_types.proofs.Grammars.{one_grammar}
use Rattle.path_types.proofs.laws.numbers_have_one_grammar.Goals as goal

pub returns : goal.returns
returns c = one_grammar
