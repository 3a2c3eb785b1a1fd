use Rattle.path_grammar.proofs.Queries as queries
use Rattle.path_grammar.proofs.laws.queries_have_one_tree.Goals as goal

pub returns : goal.returns
returns c = queries.have_one_tree
